pub mod Stops
pub mod Entries
pub mod Operations
