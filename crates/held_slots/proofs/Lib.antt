pub mod SlotCounts
