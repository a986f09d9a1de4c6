pub mod DriveLemmas
pub mod ShapeLemmas
pub mod CountLemmas
mod DriveSetLemmas
pub mod LossLemmas
mod WorkedLevels
