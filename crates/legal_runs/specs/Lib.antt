pub mod Operations
pub mod Entries
pub mod Actors
pub mod Verdicts
