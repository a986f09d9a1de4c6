pub mod ListGrowth
pub mod ScriptCalls
pub mod OrderLogs
pub mod OperationLogs
pub mod PlainEvents
pub mod RestOfScript
pub mod TakenSlots
pub mod StockPlaces
mod StockInOrder
pub mod OperationEffect
pub mod RunStart
pub mod RetiredSlots
mod WorkedRetirement
pub mod RunEffect
pub mod RunLegality
pub mod ReturnedSlots
pub mod RackCounts
pub mod ResultLemmas
pub mod SourceLemmas
pub mod FaultLines
