pub mod PlayedRuns
pub mod RunEnds
pub mod Outcomes
