-- Slots for a legal inode are of the cluster, on different drives that are up.
use Rattle.std.proofs.Common.{◌≡◌, Bool, true, false, if◌then◌else◌, inl, inr, List, [], ◌∷◌, refl, sym, ap, subst, ◌∙◌}
use Rattle.std.specs.List.{AllByRecursion}
use Rattle.std.proofs.lemmas.Bool.{and_parts, both_ways, cases_Bool}
use Rattle.std.proofs.lemmas.List.Elements.{All-cons, All-nil}
use Rattle.std.proofs.lemmas.Simd.{map-map}
use Rattle.domains.specs.Drive.{AreApart, Drive, is_in, same_drive}
use Rattle.domains.specs.DriveSet.{has}
use Rattle.domains.specs.Place.{IsPlaceOf, Place}
use Rattle.domains.proofs.DriveLemmas.{same_drive-eq}
use Rattle.board.specs.declared.board_view.View.{View}
use Rattle.flex_io.specs.declared.raw_place.RawPlace.{RawPlace}
use Rattle.held_slots.specs.Slots.{drive_of, place_from, places_from}
use Rattle.file_history.specs.Layout.{Layout}
use Rattle.file_history.specs.Step.{Creates, IsNewPlace}
use Rattle.file_core.specs.Creation.{inode_group}
use Rattle.file_core.specs.FileView.{FileView, layout_of, now_of}
use Rattle.slot_search.specs.HandSeats.{AreOfCluster, drives_of_all}

among_rest : (first rest : Bool) → first ≡ false → (if first then true else rest) ≡ true → rest ≡ true
among_rest true rest is there = absurd (both_ways true is refl)
among_rest false rest is there = there

module _ {S : Type 0} (place_of : S → RawPlace) (x : FileView S) (view : View) where
  of_cluster : (l : Layout) (slots : List S) → AllByRecursion (IsNewPlace (now_of x view) l) (places_from place_of slots) → AreOfCluster place_of x.shape slots
  of_cluster l [] all = All-nil (λ (y : S). IsPlaceOf x.shape (place_from (place_of y)))
  of_cluster l (y ∷ ys) all =
      All-cons (λ (z : S). IsPlaceOf x.shape (place_from (place_of z))) y ys (record { drive = all.0.drive; slot = all.0.slot }) (of_cluster l ys all.1)

  are_up : (l : Layout) (slots : List S) → AllByRecursion (IsNewPlace (now_of x view) l) (places_from place_of slots) → (d : Drive)
      → is_in (drives_of_all place_of slots) d ≡ true → has view.up d ≡ true
  are_up l [] all d there = absurd (both_ways false refl there)
  are_up l (y ∷ ys) all d there = elim (cases_Bool (same_drive (drive_of place_of y) d)) [
    | inl this ↦
        let usable = (and_parts _ _ all.0.usable).0 in
        ap (has view.up) (sym (same_drive-eq (drive_of place_of y) d this)) ∙ (and_parts _ _ usable).1
    | inr other ↦ are_up l ys all.1 d (among_rest _ (is_in (drives_of_all place_of ys) d) other there)
  ]

  -- what becomes of the slots, if the file is not created
  pub inode_slots : (slots : List S) → Creates (now_of x view) (layout_of x) (inode_group place_of (layout_of x) slots)
      → AreOfCluster place_of x.shape slots × AreApart (drives_of_all place_of slots) × ((d : Drive) → is_in (drives_of_all place_of slots) d ≡ true → has view.up d ≡ true)
  inode_slots slots creates = (
    of_cluster (layout_of x) slots creates.places.each,
    subst AreApart (map-map (λ (p : Place). p.drive) (λ (y : S). place_from (place_of y)) slots) creates.level.at_level.apart,
    are_up (layout_of x) slots creates.places.each,
  )
