-- The two slots of a mirror.
use Rattle.std.specs.Prelude.{◌≡◌, ◌≢◌, ◌⊎◌, ℕ, true, List, [], ◌∷◌, Option, Some, IsSome}
use Rattle.flex_io.specs.Slots.{Holds}
use Rattle.flex_io.specs.Faults.{HasRisen}
use Rattle.flex_io.specs.declared.raw_place.RawPlace.{RawPlace}
use Rattle.domains.specs.Shape.{Shape}
use Rattle.domains.specs.declared.group.Group.{Group}
use Rattle.domains.specs.Place.{is_place_of}
use Rattle.held_slots.specs.Slots.{place_from}
use Rattle.plain_file.specs.declared.pair.Pair.{Pair}

-- the slots of a mirror, by position
abbrev pub slots_of : {S : Type 0} → Pair S → List S
slots_of pair = pair.first ∷ pair.second ∷ []

-- the group of this generation whose units the slots are
abbrev pub mirror_of : {S : Type 0} → (S → RawPlace) → ℕ → Pair S → Group
mirror_of place_of generation pair = record {
  generation = generation;
  n = 1;
  m = 1;
  places = place_from (place_of pair.first) ∷ place_from (place_of pair.second) ∷ [];
}

-- the two slots are of the cluster, on two nodes
pub record IsMirror {S : Type 0} (place_of : S → RawPlace) (shape : Shape) (pair : Pair S) : Type 0 where
  pub first : is_place_of shape (place_from (place_of pair.first)) ≡ true
  pub second : is_place_of shape (place_from (place_of pair.second)) ≡ true
  pub apart : (place_of pair.first).node ≢ (place_of pair.second).node

-- the slots stand where they stood
pub record SamePlaces {S : Type 0} (place_of : S → RawPlace) (old new : Pair S) : Type 0 where
  pub first : place_of new.first ≡ place_of old.first
  pub second : place_of new.second ≡ place_of old.second

-- a slot that told what it holds tells it still
pub record TellStill {S : Type 0} (content : S → Option (List ℕ)) (old new : Pair S) : Type 0 where
  pub first : IsSome (content old.first) → IsSome (content new.first)
  pub second : IsSome (content old.second) → IsSome (content new.second)

-- the count of faults of one of the slots rose
abbrev pub PairFails : {S : Type 0} → (S → ℕ) → Pair S → Pair S → Type 0
PairFails faults old new =
    HasRisen (faults old.first) (faults new.first) ⊎ HasRisen (faults old.second) (faults new.second)

-- both slots hold these bytes, where they tell
pub record AreCopies {S : Type 0} (content : S → Option (List ℕ)) (pair : Pair S) (bytes : List ℕ) : Type 0 where
  pub first : Holds (content pair.first) bytes
  pub second : Holds (content pair.second) bytes

-- both slots tell that they hold these bytes
pub record AreTold {S : Type 0} (content : S → Option (List ℕ)) (pair : Pair S) (bytes : List ℕ) : Type 0 where
  pub first : content pair.first ≡ Some bytes
  pub second : content pair.second ≡ Some bytes

-- the slots stand where they stood, and hold what they held
pub record SameSlots {S : Type 0} (place_of : S → RawPlace) (content : S → Option (List ℕ)) (old new : Pair S) : Type 0 where
  pub first_place : place_of new.first ≡ place_of old.first
  pub second_place : place_of new.second ≡ place_of old.second
  pub first_content : content new.first ≡ content old.first
  pub second_content : content new.second ≡ content old.second
