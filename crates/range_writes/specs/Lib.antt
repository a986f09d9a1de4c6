pub mod StandingRuns
pub mod ReadyWrites
pub mod PulledWrites
pub mod PlacedWrites
