pub mod Table
pub mod Canonical
pub mod Parts
pub mod Answers
