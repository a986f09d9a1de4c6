mod TestedGroups
mod AffectedGroups
mod GroupsBefore
mod CoveredUnits
mod NeededGroups
mod RunOfWidths
mod Windows
mod ChunkLists
pub mod NewBytesByPlace
pub mod RunLemmas
pub mod ChunkCounts
mod WorkedRuns
pub mod NamedRuns
