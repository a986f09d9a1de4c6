pub mod Words
pub mod Ops
pub mod Canonical
