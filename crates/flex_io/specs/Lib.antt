pub mod Faults
pub mod Slots
pub mod Racks
pub mod Inputs
pub mod SurePieces
pub mod Calls
pub mod RackCalls
