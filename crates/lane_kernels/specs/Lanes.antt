-- What a vector holds, and what a step over some places of a buffer does.
use Rattle.std.specs.Prelude.{◌≡◌, ℕ, ◌<◌, ◌≤◌, List, length, slice_index}
use Rattle.galois.specs.Field.{field_sum}
use Rattle.lane_kernels.specs.Halves.{looked_up}

-- v has n lanes, and lane k holds f k
pub record HasLanes (n : ℕ) (v : List ℕ) (f : ℕ → ℕ) : Type 0 where
  pub long : length v ≡ n
  pub each : (k : ℕ) → k < n → slice_index v k ≡ f k

-- the table's entries for the input are added at the places from `from` up to `to`, and nowhere else
pub record AddsLookedUp (table : List ℕ) (from to : ℕ) (input old new : List ℕ) : Type 0 where
  pub added : (k : ℕ) → from ≤ k → k < to → slice_index new k ≡ field_sum (slice_index old k) (looked_up table (slice_index input k))
  pub before : (k : ℕ) → k < from → slice_index new k ≡ slice_index old k
  pub after : (k : ℕ) → to ≤ k → slice_index new k ≡ slice_index old k
