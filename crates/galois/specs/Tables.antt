-- What the tables say of the field.
use Rattle.std.specs.Prelude.{◌≡◌, ℕ, ◌<◌, List, slice_index}
use Rattle.galois.specs.Field.{IsByte, doubled_times, field_product}

-- each entry is one, doubled as often as its index says
pub record HoldsPowers (table : List ℕ) : Type 0 where
  pub entry : (i : ℕ) → i < 510 → slice_index table i ≡ doubled_times i 1

-- each entry but that of zero says how often one is doubled to give its index
pub record HoldsLogarithms (table : List ℕ) : Type 0 where
  pub small : (a : ℕ) → 0 < a → IsByte a → slice_index table a < 255
  pub entry : (a : ℕ) → 0 < a → IsByte a → doubled_times (slice_index table a) 1 ≡ a

-- each entry but that of zero is the inverse of its index
pub record HoldsInverses (table : List ℕ) : Type 0 where
  pub entry : (a : ℕ) → 0 < a → IsByte a → field_product a (slice_index table a) ≡ 1
