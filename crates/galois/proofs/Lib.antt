pub mod DoubledBytes
pub mod FieldProducts
pub mod FieldSums
pub mod HornersRule
pub mod Interpolants
pub mod Inverses
pub mod Mirrors
mod PolynomialThroughPoints
pub mod PolynomialValues
pub mod Roots
mod TableEntries
mod WorkedValues
