pub mod TriedDrives
pub mod SeatTurns
mod SearchSets
mod FirstOpenDrive
mod SearchSteps
pub mod SearchEnd
mod ReleasedSlots
