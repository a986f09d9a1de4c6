mod PoolNumbers
pub mod FreeCounts
pub mod ReturnLemmas
