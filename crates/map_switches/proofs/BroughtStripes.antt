-- What a change brings, with its slots: where they stand, how long they are, and what they hold.
use Rattle.std.proofs.Common.{◌≡◌, ℕ, List, [], ◌∷◌, length, map, Option, refl, sym, ap, ◌∙◌}
use Rattle.std.specs.List.{AllByRecursion}
use Rattle.std.proofs.lemmas.List.{length-map}
use Rattle.flex_io.specs.declared.raw_place.RawPlace.{RawPlace}
use Rattle.domains.specs.Place.{Place}
use Rattle.domains.specs.declared.group.Group.{Group}
use Rattle.held_slots.specs.Slots.{place_from}
use Rattle.striped_groups.specs.StoredGroups.{GroupSlots, HoldRun, StandsThere, StoredGroup, stored_group}
use Rattle.map_switches.specs.declared.change.Why.{Why}
use Rattle.map_switches.specs.declared.change.Why.TheVariants.{Write, Place as Place_}
use Rattle.map_switches.specs.declared.change.Fresh.{Fresh}
use Rattle.map_switches.specs.declared.change.Fresh.TheVariants.{Groups, Units}
use Rattle.map_switches.specs.declared.change.FreshUnit.{FreshUnit}
use Rattle.map_switches.specs.RepairedUnits.{AreFreshUnits, HoldMissing, places_with, repaired}
use Rattle.map_switches.specs.Switches.{AreForRun, AreOfSlots, AreRepairs, HoldFresh, IsFreshStripe, brought, groups_of}
use Rattle.map_switches.proofs.RepairedSlots.{repaired-holds, slots_with-lengths, slots_with-places}

-- the change is a job's
abbrev pub IsPlacement : Why → Type 0
IsPlacement (Write offset bytes) = ⊥
IsPlacement (Place_ job) = Unit {0}

module _ {S : Type 0} (content : S → Option (List ℕ)) where
  -- the one group of a repair
  pub record IsRepair (run : List Group) (unit : ℕ) (part : List ℕ) (us : List (FreshUnit S)) : Type 0 where
    pub group : Group
    pub run_is : run ≡ group ∷ []
    pub missing : HoldMissing content unit group part us

  pub repair : (why : Why) (run : List Group) (unit : ℕ) (part : List ℕ) (us : List (FreshUnit S)) → AreRepairs content why run unit part us → IsRepair run unit part us
  repair (Write offset bytes) run unit part us are = absurd are
  repair (Place_ job) [] unit part us are = absurd are
  repair (Place_ job) (g ∷ []) unit part us are = record { group = g; run_is = refl; missing = are }
  repair (Place_ job) (g ∷ h ∷ gs) unit part us are = absurd are

module _ {S : Type 0} (place_of : S → RawPlace) (content : S → Option (List ℕ)) (len_of : S → ℕ) where
  abbrev stored : List (GroupSlots S) → List StoredGroup
  stored xs = map (stored_group place_of content len_of) xs

  lengths : (xs : List S) (unit : ℕ) → AllByRecursion (λ (n : ℕ). n ≡ unit) (map len_of xs) → AllByRecursion (λ (x : S). len_of x ≡ unit) xs
  lengths [] unit all = tt
  lengths (x ∷ xs) unit all = (all.0, lengths xs unit all.1)

  mapped_lengths : (xs : List S) (unit : ℕ) → AllByRecursion (λ (x : S). len_of x ≡ unit) xs → AllByRecursion (λ (n : ℕ). n ≡ unit) (map len_of xs)
  mapped_lengths [] unit all = tt
  mapped_lengths (x ∷ xs) unit all = (all.0, mapped_lengths xs unit all.1)

  -- stripes of a file stand at their places
  pub stripes_there : (xs : List (GroupSlots S)) (unit : ℕ) → AllByRecursion StandsThere (stored xs)
      → AllByRecursion (λ (g : StoredGroup). AllByRecursion (λ (n : ℕ). n ≡ unit) g.lengths) (stored xs) → AllByRecursion (IsFreshStripe place_of len_of unit) xs
  stripes_there [] unit stand sized = tt
  stripes_there (x ∷ xs) unit stand sized =
      (record { stands = stand.0.places; sized = lengths x.slots unit sized.0 }, stripes_there xs unit stand.1 sized.1)

  repaired_stand : (run : List (GroupSlots S)) (us : List (FreshUnit S)) (unit : ℕ) (old : List ℕ) → AreFreshUnits place_of len_of us 0 unit old
      → AllByRecursion (IsFreshStripe place_of len_of unit) run → AllByRecursion (IsFreshStripe place_of len_of unit) (map (repaired us) run)
  repaired_stand [] us unit old are stand = tt
  repaired_stand (x ∷ xs) us unit old are stand = (
    record {
      stands = slots_with-places place_of len_of x.slots us 0 unit old are ∙ ap (λ (ss : List Place). places_with ss us) stand.0.stands;
      sized = lengths _ unit (slots_with-lengths place_of len_of x.slots us 0 unit old are (mapped_lengths x.slots unit stand.0.sized));
    },
    repaired_stand xs us unit old are stand.1,
  )

  -- and so do those that a change brings
  pub brought_stand : (run : List (GroupSlots S)) (fresh : Fresh S) (unit : ℕ) (old : List ℕ) → AreOfSlots place_of len_of unit old fresh
      → AllByRecursion (IsFreshStripe place_of len_of unit) run → AllByRecursion (IsFreshStripe place_of len_of unit) (brought run fresh)
  brought_stand run (Groups gs) unit old are stand = are
  brought_stand run (Units us) unit old are stand = repaired_stand run us unit old are stand

  -- what it brings holds its part of the bytes, if a job's run holds that part
  pub brought_hold : (why : Why) (run : List (GroupSlots S)) (fresh : Fresh S) (unit : ℕ) (part : List ℕ)
      → HoldFresh place_of content len_of why (groups_of run) unit part fresh → (IsPlacement why → HoldRun (stored run) part unit)
      → HoldRun (stored (brought run fresh)) part unit
  brought_hold why run (Groups gs) unit part holds held = holds
  brought_hold (Write offset bytes) run (Units us) unit part holds held = absurd holds
  brought_hold (Place_ job) [] (Units us) unit part holds held = absurd holds
  brought_hold (Place_ job) (x ∷ []) (Units us) unit part holds held = repaired-holds place_of content len_of x us unit part (held tt) holds
  brought_hold (Place_ job) (x ∷ y ∷ ys) (Units us) unit part holds held = absurd holds

  -- and there is a unit for each slot of a group that is repaired
  pub units_for_run : (why : Why) (run : List (GroupSlots S)) (fresh : Fresh S) (unit : ℕ) (part : List ℕ)
      → HoldFresh place_of content len_of why (groups_of run) unit part fresh → AllByRecursion (IsFreshStripe place_of len_of unit) run → AreForRun run fresh
  units_for_run why run (Groups gs) unit part holds stand = tt
  units_for_run (Write offset bytes) run (Units us) unit part holds stand = absurd holds
  units_for_run (Place_ job) [] (Units us) unit part holds stand = absurd holds
  units_for_run (Place_ job) (x ∷ []) (Units us) unit part holds stand =
      holds.whole ∙ sym (ap (λ (ss : List Place). length ss) stand.0.stands) ∙ length-map x.slots (λ (y : S). place_from (place_of y))
  units_for_run (Place_ job) (x ∷ y ∷ ys) (Units us) unit part holds stand = absurd holds
