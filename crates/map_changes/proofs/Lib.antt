mod TurnedRuns
pub mod Pairs
pub mod SplicedLists
pub mod ChangedPlaces
pub mod ChangedInodes
pub mod InodeLengths
