pub mod DriveLoss
mod MirrorRoom
mod DrawnSlots
mod FileTurns
mod InodeLengths
mod FirstWrite
mod ReadRanges
mod FaultCauses
mod ReleasedSlots
pub mod SlotOrder
mod StoredFile
