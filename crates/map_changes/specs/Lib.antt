pub mod ChangedMaps
pub mod Laws
