pub mod Changes
pub mod Jobs
pub mod JobLog
