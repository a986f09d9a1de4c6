-- New places, from what is tested of them.
use Rattle.std.proofs.Common.{◌≡◌, ◌<◌, ℕ, Bool, true, false, List, [], ◌∷◌, IsTrue, ◌↔◌, Result, Ok, Err, IfOk, refl, sym, subst, ◌∙◌}
use Rattle.std.proofs.lemmas.Bool.{false≢true, and_parts, and_from, ltb-true, lt-ltb}
use Rattle.std.specs.List.{AllByRecursion, list_all}
use Rattle.std.specs.BTreeSet.{BTreeSet}
use Rattle.domains.specs.declared.drive_set.DriveSet.{DriveSet}
use Rattle.domains.specs.Place.{Place, IsPlace}
use Rattle.domains.specs.Shape.{Shape, IsShape, is_of}
use Rattle.domains.specs.DriveSet.{has}
use Rattle.domains.proofs.ShapeLemmas.{IsDrive-of, IsPlace-of}
use Rattle.file_history.specs.World.{Moment}
use Rattle.file_history.specs.Layout.{Layout}
use Rattle.file_history.specs.Step.{AreNewPlaces, IsNewPlace}
use Rattle.stale_changes.specs.PlaceMarks.{AreMarked, AreNew, is_marked}
use Rattle.placed_groups.specs.NewPlaces.{AreTaken, IsUsableSet, is_open}

record IsOpen (shape : Shape) (usable : DriveSet) (s : Place) : Type 0 where
  pub drive : is_of shape s.drive ≡ true
  pub slot : s.slot < shape.slots
  pub usable_is : has usable s.drive ≡ true

parts_of : (shape : Shape) (usable : DriveSet) (s : Place) → is_open shape usable s ≡ true → IsOpen shape usable s
unfolding is_open
parts_of shape usable s is =
    let outer = and_parts _ _ is in
    let inner = and_parts _ _ outer.0 in
    record { drive = inner.0; slot = ltb-true _ _ inner.1; usable_is = outer.1 }

open_from : (shape : Shape) (usable : DriveSet) (s : Place) → IsOpen shape usable s → is_open shape usable s ≡ true
unfolding is_open
open_from shape usable s is = and_from _ _ (and_from _ _ is.drive (lt-ltb _ _ is.slot)) is.usable_is

place_of : (shape : Shape) (usable : DriveSet) (s : Place) → IsShape shape → IsOpen shape usable s → IsPlace s
place_of shape usable s cluster is = IsPlace-of shape s cluster (record { drive = is.drive; slot = is.slot })

-- the places of open slots have numbers within the limits
pub open_are_places : (shape : Shape) (usable : DriveSet) (places : List Place) → IsShape shape → list_all (is_open shape usable) places ≡ true
    → AllByRecursion IsPlace places
open_are_places shape usable [] cluster is = tt
open_are_places shape usable (s ∷ ss) cluster is =
    let both = and_parts (is_open shape usable s) (list_all (is_open shape usable) ss) is in
    (place_of shape usable s cluster (parts_of shape usable s both.0), open_are_places shape usable ss cluster both.1)

module _ (shape : Shape) (usable : DriveSet) (now : Moment) (l : Layout) (cluster : IsShape shape) (usable_is : IsUsableSet shape usable now l) where
  one_open : (s : Place) → IsNewPlace now l s → IsOpen shape usable s
  one_open s new =
      let drive : is_of shape s.drive ≡ true = subst (λ (c : Shape). is_of c s.drive ≡ true) usable_is.cluster new.drive in
      record {
        drive = drive;
        slot = subst (λ (c : Shape). s.slot < c.slots) usable_is.cluster new.slot;
        usable_is = usable_is.each s.drive (IsDrive-of shape s.drive cluster drive) ∙ new.usable;
      }

  one_new : (keys : BTreeSet ℕ) → AreTaken keys l → (s : Place) → IsOpen shape usable s → is_marked keys s ≡ false → IsNewPlace now l s
  one_new keys taken s is unmarked = record {
    drive = subst (λ (c : Shape). is_of c s.drive ≡ true) (sym usable_is.cluster) is.drive;
    slot = subst (λ (c : Shape). s.slot < c.slots) (sym usable_is.cluster) is.slot;
    usable = sym (usable_is.each s.drive (IsDrive-of shape s.drive cluster is.drive)) ∙ is.usable_is;
    free = sym (taken s (place_of shape usable s cluster is)) ∙ unmarked;
  }

  -- new places are open
  pub new_are_open : (places : List Place) → AllByRecursion (IsNewPlace now l) places → list_all (is_open shape usable) places ≡ true
  new_are_open [] new = refl
  new_are_open (s ∷ ss) new =
      and_from (is_open shape usable s) (list_all (is_open shape usable) ss) (open_from shape usable s (one_open s new.0)) (new_are_open ss new.1)

  each_new : (keys : BTreeSet ℕ) → AreTaken keys l → (places : List Place) → list_all (is_open shape usable) places ≡ true
      → AllByRecursion (λ (s : Place). is_marked keys s ≡ false) places → AllByRecursion (IsNewPlace now l) places
  each_new keys taken [] is unmarked = tt
  each_new keys taken (s ∷ ss) is unmarked =
      let both = and_parts (is_open shape usable s) (list_all (is_open shape usable) ss) is in
      (one_new keys taken s (parts_of shape usable s both.0) unmarked.0, each_new keys taken ss both.1 unmarked.1)

  each_unmarked : (keys : BTreeSet ℕ) → AreTaken keys l → (places : List Place) → AllByRecursion (IsNewPlace now l) places
      → AllByRecursion (λ (s : Place). is_marked keys s ≡ false) places
  each_unmarked keys taken [] new = tt
  each_unmarked keys taken (s ∷ ss) new =
      (taken s (place_of shape usable s cluster (one_open s new.0)) ∙ new.0.free, each_unmarked keys taken ss new.1)

  -- open places that are new to the marks are new places of the file, and only they are
  pub new_if_marked : (keys : BTreeSet ℕ) → AreTaken keys l → (places : List Place) → list_all (is_open shape usable) places ≡ true → AreNew places keys
      → AreNewPlaces now l places
  new_if_marked keys taken places is new = record { each = each_new keys taken places is new.fresh; distinct = new.distinct }

  pub marked_if_new : (keys : BTreeSet ℕ) → AreTaken keys l → (places : List Place) → AreNewPlaces now l places → AreNew places keys
  marked_if_new keys taken places new = record { distinct = new.distinct; fresh = each_unmarked keys taken places new.each }

-- the answer of the marks is the answer of the test
pub marks_answer : {E : Type 0} (r : Result Bool E) (shape : Shape) (usable : DriveSet) (places : List Place) (old new : BTreeSet ℕ) → IsShape shape
    → list_all (is_open shape usable) places ≡ true
    → IfOk r (λ (all : Bool). all ≡ true → AreMarked places old new) → IfOk r (λ (all : Bool). AreNew places old → all ≡ true)
    → IfOk r (λ (all : Bool). (now : Moment) (l : Layout) → IsUsableSet shape usable now l → AreTaken old l → IsTrue all ↔ AreNewPlaces now l places)
marks_answer (Ok all) shape usable places old new cluster is added accepts =
    λ now l usable_is taken. (
      λ so. new_if_marked shape usable now l cluster usable_is old taken places is (added so).were_new,
      λ are. accepts (marked_if_new shape usable now l cluster usable_is old taken places are),
    )
marks_answer (Err e) shape usable places old new cluster is added accepts = tt

-- places that are not all open are not all new
pub none_if_closed : (shape : Shape) (usable : DriveSet) (places : List Place) → IsShape shape → list_all (is_open shape usable) places ≡ false
    → (now : Moment) (l : Layout) → IsUsableSet shape usable now l → IsTrue false ↔ AreNewPlaces now l places
none_if_closed shape usable places cluster is now l usable_is = (
  λ so. absurd (false≢true so),
  λ new. absurd (false≢true (sym is ∙ new_are_open shape usable now l cluster usable_is places new.each)),
)
