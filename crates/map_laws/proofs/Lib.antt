pub mod StandingGroups
pub mod ChangedRuns
mod SingleGroups
pub mod EventGroups
pub mod SoundFiles
pub mod LaterLogs
mod WorkedMaps
