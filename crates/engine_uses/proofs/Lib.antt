pub mod ItemsOverTurns
pub mod EngineCalls
pub mod AskedItems
