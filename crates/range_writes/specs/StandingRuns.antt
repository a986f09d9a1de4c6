-- The new groups of a write on their slots.
use Rattle.std.specs.Prelude.{◌≡◌, ℕ, ◌+◌, ◌*◌, ◌≤◌, true, ◌&&◌, nat_eq, List, [], ◌∷◌, length, map, Option}
use Rattle.std.specs.List.{AllByRecursion, count_by}
use Rattle.domains.specs.Drive.{AreApart, Drive, is_in}
use Rattle.domains.specs.DriveSet.{has}
use Rattle.domains.specs.Place.{IsPlaceOf}
use Rattle.domains.specs.Shape.{Shape}
use Rattle.flex_io.specs.declared.raw_place.RawPlace.{RawPlace}
use Rattle.held_slots.specs.Slots.{place_from}
use Rattle.slot_search.specs.HandSeats.{drives_of_all}
use Rattle.striped_groups.specs.StoredGroups.{GroupSlots, HoldsUnits}
use Rattle.write_rule.specs.NewBytes.{padded_slice}
use Rattle.placed_runs.specs.PlacedRuns.{IsFreshGroup}
use Rattle.placed_runs.specs.declared.terms.RunTerms.{RunTerms}

module _ {S : Type 0} (place_of : S → RawPlace) where
  -- the slots of a new group of n data units stand where the terms allow it
  pub record StandsOnSlots (t : RunTerms) (shape : Shape) (n : ℕ) (g : GroupSlots S) : Type 0 where
    pub group : IsFreshGroup place_of n t.level.m g
    pub places : AllByRecursion (λ (y : S). IsPlaceOf shape (place_from (place_of y))) g.slots
    pub usable : (d : Drive) → is_in (drives_of_all place_of g.slots) d ≡ true → (has t.usable d && has t.view.up d) ≡ true
    pub apart : AreApart (drives_of_all place_of g.slots)
    pub spread : (node : ℕ) → count_by (λ (d : Drive). nat_eq d.node node) (drives_of_all place_of g.slots) ≤ t.level.k
    pub whole : length g.slots ≡ n + t.level.m

module _ {S : Type 0} (place_of : S → RawPlace) (content : S → Option (List ℕ)) (len_of : S → ℕ) where
  -- and hold a codeword of these bytes
  pub record HoldsData (t : RunTerms) (shape : Shape) (n : ℕ) (bytes : List ℕ) (g : GroupSlots S) : Type 0 where
    pub stands : StandsOnSlots place_of t shape n g
    pub holds : HoldsUnits t.unit n t.level.m bytes (map content g.slots)
    pub sized : AllByRecursion (λ (y : S). len_of y ≡ t.unit) g.slots

  -- the groups, with these numbers of data units, hold the bytes from a place on, one after the other
  abbrev pub HoldBytes : RunTerms → Shape → List ℕ → ℕ → List ℕ → List (GroupSlots S) → Type 0
  HoldBytes t shape bytes from [] [] = Unit {0}
  HoldBytes t shape bytes from [] (g ∷ gs) = ⊥
  HoldBytes t shape bytes from (n ∷ ns) [] = ⊥
  HoldBytes t shape bytes from (n ∷ ns) (g ∷ gs) =
      HoldsData t shape n (padded_slice bytes from (n * t.unit)) g × HoldBytes t shape bytes (from + n * t.unit) ns gs
