-- Codewords: unit i of every column is the value at element i of one polynomial.
use Rattle.std.specs.Prelude.{◌≡◌, ℕ, ◌+◌, ◌<◌, List, [], length, All, slice_index, slice_index_or}
use Rattle.galois.specs.Field.{IsByte}
use Rattle.galois.specs.Polynomial.{polynomial_value}

-- unit i
abbrev pub unit_at : List (List ℕ) → ℕ → List ℕ
unit_at units i = slice_index_or units i []

-- the polynomial with these n coefficients takes, at each position, the unit's byte in this column
pub record IsColumn (n : ℕ) (units : List (List ℕ)) (column : ℕ) (coefficients : List ℕ) : Type 0 where
  pub degree : length coefficients ≡ n
  pub bytes : All IsByte coefficients
  pub takes : (i : ℕ) → i < length units → slice_index (unit_at units i) column ≡ polynomial_value coefficients i

-- the units are n + m byte lists of one length, and in every column they are the values, at their positions, of one
-- polynomial with n coefficients
pub record IsCodeword (n m : ℕ) (units : List (List ℕ)) : Type 0 where
  pub count : length units ≡ n + m
  pub equal : All (λ unit. length unit ≡ length (unit_at units 0)) units
  pub columns : (column : ℕ) → column < length (unit_at units 0)
      → (coefficients : List ℕ) × IsColumn n units column coefficients
