-- What contracts see of a slot in memory.
use Rattle.std.specs.Prelude.{ℕ, List}
use Rattle.flex_io.specs.declared.raw_place.RawPlace.{RawPlace}

-- a slot's place, its bytes and how often it was read
pub record Piece : Type 0 where
  pub place : RawPlace
  pub bytes : List ℕ
  pub reads : ℕ
