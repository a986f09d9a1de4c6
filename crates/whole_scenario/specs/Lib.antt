pub mod Payloads
pub mod Names
pub mod Canonical
