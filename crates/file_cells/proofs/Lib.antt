pub mod FilesReturned
pub mod NewFiles
pub mod StandingSlots
