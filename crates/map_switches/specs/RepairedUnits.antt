-- The units of one group: of each, that it stays in its slot, or gets a new one.
use Rattle.std.specs.Prelude.{◌≡◌, ℕ, ◌+◌, List, [], ◌∷◌, ◌++◌, length, take, Option}
use Rattle.std.specs.List.{AllByRecursion, flat_map}
use Rattle.flex_io.specs.Slots.{Holds}
use Rattle.flex_io.specs.declared.raw_place.RawPlace.{RawPlace}
use Rattle.domains.specs.Place.{Place}
use Rattle.domains.specs.declared.group.Group.{Group}
use Rattle.galois.specs.Codeword.{IsCodeword}
use Rattle.held_slots.specs.Slots.{place_from}
use Rattle.stale_changes.specs.declared.basis.KeptUnit.{KeptUnit}
use Rattle.striped_groups.specs.StoredGroups.{GroupSlots}
use Rattle.map_switches.specs.declared.change.FreshUnit.{FreshUnit}
use Rattle.map_switches.specs.declared.change.FreshUnit.TheVariants.{Kept, New}

module _ {S : Type 0} where
  -- the place of a unit that stood there
  abbrev pub place_with : Place → FreshUnit S → Place
  place_with s (Kept generation position) = s
  place_with s (New place slot) = place

  -- the slot of a unit that was in this one
  abbrev pub slot_with : S → FreshUnit S → S
  slot_with x (Kept generation position) = x
  slot_with x (New place slot) = slot

  -- the places of a repaired group, which had these
  abbrev pub places_with : List Place → List (FreshUnit S) → List Place
  places_with [] us = []
  places_with (s ∷ ss) [] = s ∷ ss
  places_with (s ∷ ss) (u ∷ us) = place_with s u ∷ places_with ss us

  -- its slots, which were these
  abbrev pub slots_with : List S → List (FreshUnit S) → List S
  slots_with [] us = []
  slots_with (x ∷ xs) [] = x ∷ xs
  slots_with (x ∷ xs) (u ∷ us) = slot_with x u ∷ slots_with xs us

  -- the old slot, if a new one takes its place
  abbrev pub slot_freed : S → FreshUnit S → List S
  slot_freed x (Kept generation position) = []
  slot_freed x (New place slot) = x ∷ []

  -- those of the slots whose places new ones take
  abbrev pub slots_freed : List S → List (FreshUnit S) → List S
  slots_freed [] us = []
  slots_freed (x ∷ xs) [] = []
  slots_freed (x ∷ xs) (u ∷ us) = slot_freed x u ++ slots_freed xs us

  -- the places of the new ones of these units
  abbrev pub added_places : List (FreshUnit S) → List Place
  added_places [] = []
  added_places (Kept generation position ∷ us) = added_places us
  added_places (New place slot ∷ us) = place ∷ added_places us

  -- the kept ones of these units
  abbrev pub kept_among : List (FreshUnit S) → List KeptUnit
  kept_among [] = []
  kept_among (Kept generation position ∷ us) = record { generation = generation; position = position } ∷ kept_among us
  kept_among (New place slot ∷ us) = kept_among us

  -- the group with these units
  abbrev pub repaired_group : List (FreshUnit S) → Group → Group
  repaired_group us g = record g { places = places_with g.places us }

  -- it, and its slots
  abbrev pub repaired : List (FreshUnit S) → GroupSlots S → GroupSlots S
  repaired us g = record { group = repaired_group us g.group; slots = slots_with g.slots us }

  -- the group, and those of its slots whose places new ones take
  abbrev pub freed : List (FreshUnit S) → GroupSlots S → GroupSlots S
  freed us g = record { group = g.group; slots = slots_freed g.slots us }

  module _ (place_of : S → RawPlace) (len_of : S → ℕ) where
    -- a kept unit names its own position in the one old group; the slot of a new one stands at its place, and has the length of a unit
    abbrev pub IsFreshUnit : ℕ → List ℕ → ℕ → FreshUnit S → Type 0
    IsFreshUnit unit old at (Kept generation position) = (old ≡ generation ∷ []) × (position ≡ at)
    IsFreshUnit unit old at (New place slot) = (place_from (place_of slot) ≡ place) × (len_of slot ≡ unit)

    -- each of these units, the first of which has this position
    abbrev pub AreFreshUnits : List (FreshUnit S) → ℕ → ℕ → List ℕ → Type 0
    AreFreshUnits [] at unit old = Unit {0}
    AreFreshUnits (u ∷ us) at unit old = IsFreshUnit unit old at u × AreFreshUnits us (at + 1) unit old

  module _ (content : S → Option (List ℕ)) where
    -- the new ones of the units hold these, by position
    abbrev pub HoldNew : List (FreshUnit S) → List (List ℕ) → Type 0
    HoldNew [] [] = Unit {0}
    HoldNew [] (w ∷ ws) = ⊥
    HoldNew (u ∷ us) [] = ⊥
    HoldNew (Kept generation position ∷ us) (w ∷ ws) = HoldNew us ws
    HoldNew (New place slot ∷ us) (w ∷ ws) = Holds (content slot) w × HoldNew us ws

    -- there is a unit for each position of the group, and the new ones hold their units of the group's codeword of these bytes
    pub record HoldMissing (unit : ℕ) (g : Group) (bytes : List ℕ) (us : List (FreshUnit S)) : Type 0 where
      pub whole : length us ≡ length g.places
      pub held : (units : List (List ℕ)) → IsCodeword g.n g.m units → AllByRecursion (λ (u : List ℕ). length u ≡ unit) units
          → flat_map (λ (u : List ℕ). u) (take g.n units) ≡ bytes → HoldNew us units
