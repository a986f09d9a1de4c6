pub mod Codeword
pub mod Field
pub mod Laws
pub mod Points
pub mod Polynomial
pub mod Tables
pub use Rattle.galois.specs.Field.{IsByte, field_sum, field_product}
pub use Rattle.galois.specs.Polynomial.{polynomial_value}
pub use Rattle.galois.specs.Points.{AreApart, TakesAll}
pub use Rattle.galois.specs.Codeword.{IsCodeword, unit_at}
