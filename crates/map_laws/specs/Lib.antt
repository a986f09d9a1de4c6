pub mod MappedGroups
pub mod Limits
pub mod Laws
