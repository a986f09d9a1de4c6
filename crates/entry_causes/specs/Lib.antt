pub mod Sights
pub mod Room
