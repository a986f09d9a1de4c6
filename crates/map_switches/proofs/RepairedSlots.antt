-- The slots of a repaired group: where they stand, how long they are, and what they hold.
use Rattle.std.proofs.Common.{◌≡◌, ℕ, suc, ◌+◌, List, [], ◌∷◌, ◌++◌, length, map, Option, refl, ap, subst, ◌∙◌, append-nil}
use Rattle.std.specs.List.{AllByRecursion}
use Rattle.flex_io.specs.declared.raw_place.RawPlace.{RawPlace}
use Rattle.domains.specs.Place.{Place}
use Rattle.held_slots.specs.Slots.{place_from, places_from}
use Rattle.domains.specs.declared.group.Group.{Group}
use Rattle.striped_groups.specs.StoredGroups.{GroupSlots, HoldEach, HoldRun, HoldsUnits, stored_group}
use Rattle.map_switches.specs.declared.change.FreshUnit.{FreshUnit}
use Rattle.map_switches.specs.declared.change.FreshUnit.TheVariants.{Kept, New}
use Rattle.map_switches.specs.RepairedUnits.{AreFreshUnits, HoldMissing, HoldNew, places_with, repaired, slots_with}

module _ {S : Type 0} where
  pub places_with-length : (ss : List Place) (us : List (FreshUnit S)) → length (places_with ss us) ≡ length ss
  places_with-length [] us = refl
  places_with-length (s ∷ ss) [] = refl
  places_with-length (s ∷ ss) (u ∷ us) = ap suc (places_with-length ss us)

  module _ (place_of : S → RawPlace) (len_of : S → ℕ) where
    pub slots_with-places : (xs : List S) (us : List (FreshUnit S)) (at unit : ℕ) (old : List ℕ) → AreFreshUnits place_of len_of us at unit old
        → places_from place_of (slots_with xs us) ≡ places_with (places_from place_of xs) us
    slots_with-places [] us at unit old are = refl
    slots_with-places (x ∷ xs) [] at unit old are = refl
    slots_with-places (x ∷ xs) (Kept generation position ∷ us) at unit old are =
        ap (λ (l : List Place). place_from (place_of x) ∷ l) (slots_with-places xs us (at + 1) unit old are.1)
    slots_with-places (x ∷ xs) (New place slot ∷ us) at unit old are =
        ap (λ (l : Place × List Place). l.0 ∷ l.1) (λ i. (are.0.0 i, slots_with-places xs us (at + 1) unit old are.1 i))

    pub slots_with-lengths : (xs : List S) (us : List (FreshUnit S)) (at unit : ℕ) (old : List ℕ) → AreFreshUnits place_of len_of us at unit old
        → AllByRecursion (λ (n : ℕ). n ≡ unit) (map len_of xs) → AllByRecursion (λ (n : ℕ). n ≡ unit) (map len_of (slots_with xs us))
    slots_with-lengths [] us at unit old are all = tt
    slots_with-lengths (x ∷ xs) [] at unit old are all = all
    slots_with-lengths (x ∷ xs) (Kept generation position ∷ us) at unit old are all = (all.0, slots_with-lengths xs us (at + 1) unit old are.1 all.1)
    slots_with-lengths (x ∷ xs) (New place slot ∷ us) at unit old are all = (are.0.1, slots_with-lengths xs us (at + 1) unit old are.1 all.1)

  module _ (content : S → Option (List ℕ)) where
    slots_with-units : (xs : List S) (us : List (FreshUnit S)) (units : List (List ℕ)) → HoldEach (map content xs) units → HoldNew content us units
        → HoldEach (map content (slots_with xs us)) units
    slots_with-units [] us units held new = held
    slots_with-units (x ∷ xs) [] units held new = held
    slots_with-units (x ∷ xs) (u ∷ us) [] held new = absurd held
    slots_with-units (x ∷ xs) (Kept generation position ∷ us) (w ∷ ws) held new = (held.0, slots_with-units xs us ws held.1 new)
    slots_with-units (x ∷ xs) (New place slot ∷ us) (w ∷ ws) held new = (new.0, slots_with-units xs us ws held.1 new.1)

    -- the old units that stay, and the new ones, are a codeword of the same bytes
    pub slots_with-holds : (xs : List S) (us : List (FreshUnit S)) (unit : ℕ) (g : Group) (bytes : List ℕ) → HoldsUnits unit g.n g.m bytes (map content xs)
        → HoldMissing content unit g bytes us → HoldsUnits unit g.n g.m bytes (map content (slots_with xs us))
    slots_with-holds xs us unit g bytes held missing = record {
      units = held.units;
      codeword = held.codeword;
      lengths = held.lengths;
      joined = held.joined;
      held = slots_with-units xs us held.units held.held (missing.held held.units held.codeword held.lengths held.joined);
    }

  module _ (place_of : S → RawPlace) (content : S → Option (List ℕ)) (len_of : S → ℕ) where
    -- a stripe that is repaired holds the bytes that it held
    pub repaired-holds : (x : GroupSlots S) (us : List (FreshUnit S)) (unit : ℕ) (bytes : List ℕ) → HoldRun (stored_group place_of content len_of x ∷ []) bytes unit
        → HoldMissing content unit x.group bytes us → HoldRun (stored_group place_of content len_of (repaired us x) ∷ []) bytes unit
    repaired-holds x us unit bytes run missing =
        let whole = run.2 ∙ ap (λ (l : List ℕ). run.0 ++ l) run.4 ∙ append-nil run.0 in (
          run.0,
          run.1,
          run.2,
          slots_with-holds content x.slots us unit x.group run.0 run.3 (subst (λ (b : List ℕ). HoldMissing content unit x.group b us) whole missing),
          run.4,
        )
