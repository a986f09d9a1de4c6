pub mod DriveSetUnion
pub mod DeadUnitLookups
pub mod PullCauses
pub mod ClearedGroups
pub mod LeftLookups
