pub mod RepairedUnits
pub mod Switches
