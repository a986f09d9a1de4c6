pub mod DriveRanks
mod AddUpLemmas
pub mod QueueLemmas
pub mod NewYard
mod SlotMoved
mod DriveRetired
pub mod ClosedYard
pub mod KnownCounts
