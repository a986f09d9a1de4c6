pub mod RackStates
pub mod Returns
pub mod FabricEnds
