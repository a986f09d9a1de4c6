pub mod FileTurns
pub mod PathRoom
pub mod NewInodes
pub mod Paths
pub mod PathAccounts
