pub mod ApartDrives
mod CycleLemmas
pub mod NodeDrives
pub mod NodeCounts
pub mod MarkedDrives
mod VisitOutcomes
pub mod OrderMembers
pub mod OrderComplete
pub mod RoomFilled
mod NodeTurns
mod OrderByRounds
mod WorkedOrder
mod WorkedRounds
mod EarlierTurns
pub mod PassedVisits
pub mod PrefixDrives
pub mod GroupChanges
pub mod VisitsLeft
pub mod AlikeRequests
pub mod StageLemmas
mod WorkedStages
