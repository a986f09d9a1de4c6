pub mod Traders
pub mod Whole
