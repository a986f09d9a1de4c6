pub mod HandSeats
pub mod Searches
