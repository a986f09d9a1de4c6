pub mod PullLemmas
pub mod SameDeadUnits
