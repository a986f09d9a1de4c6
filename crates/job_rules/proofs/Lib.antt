pub mod RankLemmas
pub mod FirstInRank
pub mod RankedLists
pub mod KeptJobs
pub mod OthersOut
pub mod WaitingJobs
mod WorkedJobs
pub mod RunningJobs
