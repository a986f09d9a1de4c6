pub mod Terms
pub mod PlacedRuns
