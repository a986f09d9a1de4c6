pub mod Spans
pub mod GroupUnits
pub mod Laws
