mod StampedEntries
mod EntryAdded
mod BoardFields
mod StatesAfterOrder
pub mod ViewLemmas
