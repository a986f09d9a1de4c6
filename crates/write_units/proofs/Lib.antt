mod JoinedUnits
mod ShownData
mod RunRanges
mod GroupsAt
mod CoveredRuns
mod RunBytes
mod OldGroups
pub mod PulledSpans
pub mod DataCodewords
