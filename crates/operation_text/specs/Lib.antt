pub mod Words
pub mod Decimals
pub mod NamedOps
pub mod LoneOps
pub mod Fields
pub mod Answers
