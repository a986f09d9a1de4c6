pub mod OpRules
pub mod FirstPlaces
