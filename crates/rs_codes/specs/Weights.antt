-- Weighted sums over the field.
use Rattle.std.specs.Prelude.{◌≡◌, ◌≢◌, ℕ, List, [], ◌∷◌, length, map, All, AllPairs}
use Rattle.galois.specs.Field.{IsByte, field_sum}
use Rattle.galois.specs.Polynomial.{polynomial_value}
pub use Rattle.lane_kernels.specs.WeightedSums.{weighted_sum, IsWeightedSum}

-- no two positions are the same
abbrev pub AreDifferent : List ℕ → Type 0
AreDifferent positions = AllPairs (λ p q. p ≢ q) positions

-- the value at the wanted place of every polynomial with as many coefficients as there are positions is the sum of its
-- values at the positions, each times its weight
pub record AreWeights (positions : List ℕ) (want : ℕ) (weights : List ℕ) : Type 0 where
  pub count : length weights ≡ length positions
  pub bytes : All IsByte weights
  pub exact : (cs : List ℕ) → All IsByte cs → length cs ≡ length positions
      → polynomial_value cs want ≡ weighted_sum weights (map (polynomial_value cs) positions)

-- the sum of these bytes
abbrev pub byte_total : List ℕ → ℕ
byte_total [] = 0
byte_total (x ∷ xs) = field_sum x (byte_total xs)
