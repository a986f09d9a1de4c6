pub mod SegmentLemmas
pub mod UnitParts
pub mod RangeParts
pub mod PulledRange
pub mod ReadAnswers
pub mod ReadAccounts
