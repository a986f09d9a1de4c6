pub mod TurnEntries
pub mod BoardKept
pub mod PathEntries
pub mod BoardOrders
