pub mod Releases
pub mod Removals
pub mod Creations
