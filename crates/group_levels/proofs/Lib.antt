pub mod SpreadUnits
