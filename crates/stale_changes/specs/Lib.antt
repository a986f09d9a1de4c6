pub mod Staleness
pub mod PlaceMarks
