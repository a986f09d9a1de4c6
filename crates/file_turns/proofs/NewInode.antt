-- The inode of a new file, on slots of drives that may give slots to one group.
use Rattle.std.proofs.Common.{◌≡◌, ℕ, zero, suc, ◌+◌, ◌≤◌, eqb, max, Bool, true, false, if◌then◌else◌, List, [], ◌∷◌, length, map, refl, sym, ap, subst, ◌∙◌, arith}
use Rattle.std.specs.List.{AllByRecursion, count_by}
use Rattle.std.proofs.Math.Nat.{max-eq_left}
use Rattle.std.proofs.lemmas.Bool.{and_left, and_parts}
use Rattle.std.proofs.lemmas.List.{length-map}
use Rattle.std.proofs.lemmas.Simd.{map-map}
use Rattle.domains.specs.AtLevel.{InodeAt, units_on}
use Rattle.domains.specs.Drive.{AreApart, Drive, is_in}
use Rattle.domains.specs.Level.{Level}
use Rattle.domains.specs.Place.{IsPlaceOf, Place, same_place}
use Rattle.domains.specs.Room.{drives_on}
use Rattle.domains.specs.Shape.{is_of}
use Rattle.domains.proofs.CountLemmas.{count_by-cons}
use Rattle.domains.proofs.DriveLemmas.{is_in-first, is_in-none, is_in-rest, same_drive-sym}
use Rattle.board.specs.declared.board_view.View.{View}
use Rattle.flex_io.specs.declared.raw_place.RawPlace.{RawPlace}
use Rattle.held_slots.specs.Slots.{drive_of, place_from, places_from}
use Rattle.placement_order.specs.Order.{DrawRequest}
use Rattle.placement_order.specs.OrderLaws.{MayGive}
use Rattle.file_history.specs.Layout.{Layout, all_groups, is_taken}
use Rattle.file_history.specs.Refusals.{is_usable}
use Rattle.file_history.specs.Step.{AreDistinct, Creates, IsNewPlace}
use Rattle.file_history.specs.World.{Moment}
use Rattle.file_core.specs.Creation.{inode_group}
use Rattle.file_core.specs.FileView.{FileView, layout_of, now_of}
use Rattle.file_turns.specs.NewInodes.{AsksForInode}

all_always : {A : Type 0} (P : A → Type 0) (xs : List A) → ((x : A) → P x) → AllByRecursion P xs
all_always P [] each = tt
all_always P (x ∷ xs) each = (each x, all_always P xs each)

none_used : (count node : ℕ) (used : Drive → Bool) → ((d : Drive) → used d ≡ false) → drives_on count node used ≡ 0
none_used zero node used none = refl
none_used (suc n) node used none =
    let rest = none_used n node used none in
    let here = ap {B = ℕ} (λ b. if b then 1 else 0) (none (record { node = node; drive = suc n })) in
    omega (arith, rest, here)

module _ {S : Type 0} (place_of : S → RawPlace) where
  -- the drives of slots
  abbrev pub drives_at : List S → List Drive
  drives_at slots = map (drive_of place_of) slots

  on_node : (node : ℕ) (slots : List S) → units_on node (places_from place_of slots) ≡ count_by (λ (d : Drive). eqb d.node node) (drives_at slots)
  on_node node [] = refl
  on_node node (x ∷ xs) =
      let rest = on_node node xs in
      let left = count_by-cons (λ (s : Place). eqb s.drive.node node) (place_from (place_of x)) (places_from place_of xs) in
      let right = count_by-cons (λ (d : Drive). eqb d.node node) (drive_of place_of x) (drives_at xs) in
      omega (arith, rest, left, right)

  others_apart : (x : S) (xs : List S) → is_in (drives_at xs) (drive_of place_of x) ≡ false
      → AllByRecursion (λ (t : Place). same_place (place_from (place_of x)) t ≡ false) (places_from place_of xs)
  others_apart x [] out = tt
  others_apart x (y ∷ ys) out =
      let both = is_in-none (drive_of place_of y) (drives_at ys) (drive_of place_of x) out in
      (and_left _ _ (same_drive-sym (drive_of place_of x) (drive_of place_of y) ∙ both.0), others_apart x ys both.1)

  pub distinct_places : (slots : List S) → AreApart (drives_at slots) → AreDistinct (places_from place_of slots)
  distinct_places [] apart = tt
  distinct_places (x ∷ xs) apart = (others_apart x xs apart.0, distinct_places xs apart.1)

  new_places : (now : Moment) (l : Layout) (slots : List S) → all_groups l ≡ [] → ((d : Drive) → is_in (drives_at slots) d ≡ true → is_usable now l d ≡ true)
      → AllByRecursion (λ (x : S). IsPlaceOf now.shape (place_from (place_of x))) slots → AllByRecursion (IsNewPlace now l) (places_from place_of slots)
  new_places now l [] none usable within = tt
  new_places now l (x ∷ xs) none usable within = (
    record {
      drive = within.0.drive;
      slot = within.0.slot;
      usable = usable (drive_of place_of x) (is_in-first (drive_of place_of x) (drives_at xs));
      free = ap (λ groups. is_taken groups (place_from (place_of x))) none;
    },
    new_places now l xs none (λ d there. usable d (is_in-rest (drive_of place_of x) (drives_at xs) d there)) within.1,
  )

module _ {S : Type 0} (place_of : S → RawPlace) (x : FileView S) (view : View) (s : DrawRequest) (spent : Drive → Bool) (slots : List S)
    (asks : AsksForInode x view s) (may : MayGive s spent (map (drive_of place_of) slots)) (many : length slots ≡ (layout_of x).requested.m + 1)
    (within : AllByRecursion (λ (y : S). IsPlaceOf x.shape (place_from (place_of y))) slots) where
  usable : (d : Drive) → is_in (map (drive_of place_of) slots) d ≡ true → is_usable (now_of x view) (layout_of x) d ≡ true
  usable d there = sym (asks.usable d (subst (λ c. is_of c d ≡ true) asks.shape (may.of_shape d there))) ∙ (and_parts _ _ (may.left d there)).0

  at_level : 1 ≤ (layout_of x).requested.w → InodeAt (inode_group place_of (layout_of x) slots) (layout_of x).requested
  at_level wide =
      let l = layout_of x in
      let places = places_from place_of slots in
      let whole = length-map slots (λ (y : S). place_from (place_of y)) in
      let length_is = many in
      let spread : (t : Place) → units_on t.drive.node places ≤ l.requested.k = λ t.
      let node = t.drive.node in
      let same = on_node place_of node slots in
      let none = none_used s.shape.drives node s.used asks.used in
      let most = may.spread node in
      let k : s.level.k ≡ l.requested.k = ap (λ (v : Level). v.k) asks.level in
      let top = max-eq_left {n = s.level.k} {m = drives_on s.shape.drives node s.used} (omega (arith, none)) in
      omega (arith, same, none, most, top, k) in
      record {
        one = refl;
        at_level = record {
          some = omega arith;
          narrow = wide;
          corrected = refl;
          whole = omega (arith, whole, length_is);
          apart = subst AreApart (sym (map-map (λ (p : Place). p.drive) (λ (y : S). place_from (place_of y)) slots)) may.apart;
          spread = all_always (λ (t : Place). units_on t.drive.node places ≤ l.requested.k) places spread;
        };
      }

  -- the absent file may be created on the slots
  pub creates : 1 ≤ (layout_of x).requested.w → (layout_of x).present ≡ false → all_groups (layout_of x) ≡ []
      → Creates (now_of x view) (layout_of x) (inode_group place_of (layout_of x) slots)
  creates wide absent none = record {
    absent = absent;
    level = at_level wide;
    number = refl;
    places = record {
      each = new_places place_of (now_of x view) (layout_of x) slots none usable within;
      distinct = distinct_places place_of slots may.apart;
    };
  }
