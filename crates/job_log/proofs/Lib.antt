pub mod ChangedItems
pub mod JobPlaces
pub mod EntriesOfJobs
pub mod JobsOfLogs
pub mod SoundJobs
pub mod StampedEntries
pub mod LogAfterEntry
