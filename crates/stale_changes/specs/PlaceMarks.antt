-- Sets of places.
use Rattle.std.specs.Prelude.{◌≡◌, ℕ, ◌+◌, ◌*◌, Bool, false, ◌||◌, List}
use Rattle.std.specs.List.{AllByRecursion, list_any}
use Rattle.std.specs.Ordering.{nat_cmp}
use Rattle.std.specs.BTreeSet.{BTreeSet, contains}
use Rattle.domains.specs.Place.{Place, IsPlace, same_place}
use Rattle.file_history.specs.Step.{AreDistinct}

-- a number for each place
abbrev pub key_of : Place → ℕ
key_of s = (s.drive.node * 32 + s.drive.drive) * 4096 + s.slot

-- the place is in the set of these numbers
abbrev pub is_marked : BTreeSet ℕ → Place → Bool
is_marked keys s = contains nat_cmp keys (key_of s)

-- none of the places comes twice or is in the set
pub record AreNew (places : List Place) (old : BTreeSet ℕ) : Type 0 where
  pub distinct : AreDistinct places
  pub fresh : AllByRecursion (λ (s : Place). is_marked old s ≡ false) places

-- the set has these places beside those that it had, and they were new
pub record AreMarked (places : List Place) (old new : BTreeSet ℕ) : Type 0 where
  pub marked : (s : Place) → IsPlace s → is_marked new s ≡ (list_any (same_place s) places || is_marked old s)
  pub were_new : AreNew places old
