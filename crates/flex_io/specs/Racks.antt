-- What came back to a rack.
use Rattle.std.specs.Prelude.{◌≡◌, ℕ, List, [], ◌∷◌, ◌++◌, Option, None, Some, ⊤}
use Rattle.flex_io.specs.declared.raw_place.RawPlace.{RawPlace}
use Rattle.flex_io.specs.declared.rack.Returned.{Returned}

-- the place of this number on the drive that this pair names
abbrev pub place_on : ℕ × ℕ → ℕ → RawPlace
place_on drive slot = record { node = drive.0; drive = drive.1; slot = slot }

-- what came back before, and then the slot of this place with this content, where both are told
abbrev pub TakesBack : Option (List Returned) → Option (List Returned) → RawPlace → Option (List ℕ)
    → Type 0
TakesBack (Some before) (Some now) place (Some bytes) =
    now ≡ before ++ record { place = place; bytes = bytes } ∷ []
TakesBack (Some before) None place (Some bytes) = ⊥
TakesBack (Some before) now place None = ⊤
TakesBack None now place content = ⊤

-- what came back to a rack in memory, and how many slots it gave and took back, each modulo 2^64
pub record RackView : Type 0 where
  pub back : List Returned
  pub takes : ℕ
  pub puts : ℕ

-- a rack of which nothing was taken
abbrev pub new_rack : RackView
new_rack = record { back = []; takes = 0; puts = 0 }
