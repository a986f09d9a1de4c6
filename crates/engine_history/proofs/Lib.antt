pub mod LongerLogs
pub mod BegunItems
mod WorkedLogs
pub mod RunningJobs
pub mod KeptByEntries
pub mod ItemsOfOneJob
pub mod ServedJobs
pub mod LegalLogs
