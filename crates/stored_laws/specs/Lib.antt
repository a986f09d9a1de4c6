pub mod WrittenUnits
pub mod Laws
