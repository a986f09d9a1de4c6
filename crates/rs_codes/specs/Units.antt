-- Units: byte lists of one length, in one buffer.
use Rattle.std.specs.Prelude.{ℕ, List}
pub use Rattle.lane_kernels.specs.WeightedSums.{units_in, column_of}

-- units of one length, in their order
pub record UnitList : Type 0 where
  pub unit_length : ℕ
  pub units : List (List ℕ)

-- units of one length, each with its position in a codeword
pub record HeldUnits : Type 0 where
  pub unit_length : ℕ
  pub positions : List ℕ
  pub units : List (List ℕ)
