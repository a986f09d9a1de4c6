pub mod Fits
pub mod Lines
pub mod Refusals
pub mod Events
pub mod Counts
pub mod Laws
