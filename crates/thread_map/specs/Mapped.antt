-- What a map over a list returns.
use Rattle.std.specs.Prelude.{◌≡◌, ℕ, List, Some, length, slice_get}
use denote.Param.Members.{Shared}

-- one result for each value, at its place, as a call of f may return it
pub record AreMapped {F J : Type 0} (calls : Shared F (J × Unit {0}) J) (f : F) (values results : List J) : Type 0 where
  pub count : length results ≡ length values
  pub each : (place : ℕ) (value result : J) → slice_get values place ≡ Some value → slice_get results place ≡ Some result → calls.post f (value, tt) result
