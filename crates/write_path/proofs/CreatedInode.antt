-- An inode that is placed is a legal one.
use Rattle.std.proofs.Common.{◌≡◌, ℕ, zero, suc, ◌+◌, ◌<◌, ◌≤◌, false, List, [], ◌∷◌, length, map, replicate, slice_index_or, get_or, Option, refl, ap, subst, ◌∙◌, arith, lit≤}
use Rattle.std.specs.List.{AllByRecursion}
use Rattle.std.proofs.lemmas.List.{length-replicate}
use Rattle.domains.specs.Level.{IsLevel, Level, named_levels}
use Rattle.domains.specs.Place.{IsPlaceOf}
use Rattle.board.specs.declared.board_view.View.{View}
use Rattle.flex_io.specs.Slots.{Holds}
use Rattle.flex_io.specs.declared.raw_place.RawPlace.{RawPlace}
use Rattle.galois.specs.Codeword.{unit_at}
use Rattle.held_slots.specs.Slots.{place_from}
use Rattle.fabric.specs.declared.hand.Hand.{Hand}
use Rattle.inode_codec.specs.Inode.{inode_bytes}
use Rattle.placement_order.specs.Order.{DrawRequest}
use Rattle.file_history.specs.Layout.{all_groups}
use Rattle.file_history.specs.Step.{Creates}
use Rattle.striped_groups.specs.StoredGroups.{Took}
use Rattle.file_core.specs.Creation.{empty_inode, inode_group}
use Rattle.file_core.specs.FileView.{FileView, layout_of, now_of}
use Rattle.placement.specs.PlacedGroups.{Places, spent_by}
use Rattle.file_turns.specs.NewInodes.{AsksForInode}
use Rattle.file_turns.proofs.NewInode.{creates}
use Rattle.write_path.specs.Creations.{units_of_inode}

-- what holds of all elements holds of one
of_contained : {A : Type 0} (P : A → Type 0) (xs : List A) (k : ℕ) (x : A) → AllByRecursion P xs → k < length xs → get_or xs k x ≡ x → P x
of_contained P [] k x all below is = absurd (omega (arith, below))
of_contained P (y ∷ ys) zero x all below is = subst P is all.0
of_contained P (y ∷ ys) (suc k) x all below is = of_contained P ys k x all.1 (omega (arith, below)) is

-- a group at a level has a data unit
pub wide : (level : Level) → IsLevel level → 1 ≤ level.w
wide level is =
    of_contained (λ (l : Level). 1 ≤ l.w) (map (λ (named : Level × List ℕ). named.0) named_levels) is.0 level
    (lit≤ tt, (lit≤ tt, (lit≤ tt, (lit≤ tt, (lit≤ tt, (lit≤ tt, (lit≤ tt, (lit≤ tt, (lit≤ tt, (lit≤ tt, (lit≤ tt, (lit≤ tt, (lit≤ tt, (lit≤ tt, (lit≤ tt, (lit≤ tt, tt)))))))))))))))) is.1 is.2

-- what holds at each position holds of each element
by_position : {A : Type 0} (P : A → Type 0) (xs : List A) → ((k : ℕ) (default : A) → k < length xs → P (slice_index_or xs k default)) → AllByRecursion P xs
by_position P [] each = tt
by_position P (x ∷ xs) each = (each 0 x (omega arith), by_position P xs (λ k default below. each (suc k) default (omega (arith, below))))

copy_at : (n k : ℕ) (u : List ℕ) → k < n → unit_at (replicate n u) k ≡ u
copy_at zero k u below = absurd (omega (arith, below))
copy_at (suc n) zero u below = refl
copy_at (suc n) (suc k) u below = copy_at n k u (omega (arith, below))

module _ {S : Type 0} (place_of : S → RawPlace) (content : S → Option (List ℕ)) (len_of faults : S → ℕ) (x : FileView S) (view : View) (s : DrawRequest)
    (slots : List S) (old new : Hand S) (asks : AsksForInode x view s) (placed : Places place_of content len_of faults s (units_of_inode x) slots old new) where
  many : length slots ≡ (layout_of x).requested.m + 1
  many = placed.many ∙ length-replicate ((layout_of x).requested.m + 1) (inode_bytes (empty_inode x.level x.shape.unit))

  within : AllByRecursion (λ (y : S). IsPlaceOf x.shape (place_from (place_of y))) slots
  within =
      subst (λ c. AllByRecursion (λ (y : S). IsPlaceOf c (place_from (place_of y))) slots) asks.shape
      (by_position (λ (y : S). IsPlaceOf s.shape (place_from (place_of y))) slots (λ k default below. (placed.written k default below).of_shape))

  -- each slot was written with the inode's bytes
  pub spelled : AllByRecursion (Took content len_of (inode_bytes (empty_inode x.level x.shape.unit))) slots
  spelled =
      by_position (Took content len_of (inode_bytes (empty_inode x.level x.shape.unit))) slots
      (λ k default below.
      let length_is = many in
      let unit = copy_at ((layout_of x).requested.m + 1) k (inode_bytes (empty_inode x.level x.shape.unit)) (omega (arith, below, length_is)) in
      let one = placed.written k default below in
      record {
        held = subst (Holds (content (slice_index_or slots k default))) unit one.holds;
        len = one.len ∙ ap (λ (u : List ℕ). length u) unit;
      })

  -- the file may be created on the slots
  pub creates_on : 1 ≤ (layout_of x).requested.w → (layout_of x).present ≡ false → all_groups (layout_of x) ≡ []
      → Creates (now_of x view) (layout_of x) (inode_group place_of (layout_of x) slots)
  creates_on wide absent none = creates place_of x view s (spent_by placed.failed placed.found) slots asks placed.may many within wide absent none
