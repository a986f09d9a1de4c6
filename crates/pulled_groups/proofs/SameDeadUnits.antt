-- What a pull answers depends on which units are dead, and not on the order in which they are kept.
use Rattle.std.proofs.Common.{◌≡◌, ℕ, ◌+◌, nat_lt, Bool, true, false, ◌&&◌, not, if◌then◌else◌, List, [], ◌∷◌, ◌++◌, Option, Some, None, refl, ap, subst}
use Rattle.board.specs.declared.board_view.View.{View}
use Rattle.flex_io.specs.declared.raw_place.RawPlace.{RawPlace}
use Rattle.domains.specs.DriveSet.{has}
use Rattle.domains.specs.Shape.{Shape, is_of}
use Rattle.domains.specs.Place.{Place}
use Rattle.domains.specs.declared.group.Group.{Group}
use Rattle.domains.specs.declared.group.Lost.{Lost}
use Rattle.file_history.specs.Layout.{Unit_}
use Rattle.file_history.specs.Live.{Part}
use Rattle.pulled_groups.specs.declared.pull_groups.PulledGroup.{PulledGroup}
use Rattle.file_heads.specs.DeadUnits.{names}
use Rattle.striped_groups.specs.StoredGroups.{GroupSlots}
use Rattle.pulled_groups.specs.Pulls.{AreAllPulled, ArePulled, AreRead, IsPulled, IsPulledIf, IsRootPulled, first_len}
use Rattle.file_heads.specs.Parts.{count_live, first_live, first_of, is_last, live_at, lost_from, lost_of, needs}
use Rattle.file_heads.specs.PullRefusals.{first_cause, refusal_in, unknown_in}

module _ (shape : Shape) (view : View) (dead listed : List Unit_) (same : (generation position : ℕ) → names dead generation position ≡ names listed generation position) where
  live_same : (generation : ℕ) → live_at shape view dead generation ≡ live_at shape view listed generation
  live_same generation i position s = (is_of shape s.drive && has view.up s.drive) && not (same generation position i)

  lost_same : (g : Group) → lost_of shape view dead g ≡ lost_of shape view listed g
  lost_same g =
      ap (λ (live : ℕ → Place → Bool). let have : ℕ = count_live g.places 0 live in let lost : Lost = record { generation = g.generation; have = have; need = g.n } in
      if nat_lt have g.n then Some lost else None) (live_same g.generation)

  lost_from_same : (gs : List Group) (start size : ℕ) (part : Part) → lost_from gs start shape view dead size part ≡ lost_from gs start shape view listed size part
  lost_from_same [] start size part = refl
  lost_from_same (g ∷ gs) start size part = λ i.
      first_of (if needs shape.unit size part start g (is_last gs) then lost_same g i else None) (lost_from_same gs (start + g.n) size part i)

  pub refusal_same : (root : Option Group) (groups : List Group) (size : ℕ) (part : Part)
      → refusal_in root groups shape view dead size part ≡ refusal_in root groups shape view listed size part
  refusal_same None groups size part = refl
  refusal_same (Some g) groups size part = λ i.
      first_cause (unknown_in (groups ++ g ∷ []) part) (first_of (lost_same g i) (lost_from_same groups 0 size part i))

  module _ {S : Type 0} (place_of : S → RawPlace) (content : S → Option (List ℕ)) (len_of reads : S → ℕ) where
    one_same : (start len : ℕ) (old new : GroupSlots S) (p : PulledGroup) → IsPulled place_of content len_of reads shape view dead start len old new p
        → IsPulled place_of content len_of reads shape view listed start len old new p
    one_same start len old new p is = record {
      group = is.group;
      start_is = is.start_is;
      slots = is.slots;
      read = subst (λ (live : ℕ → Place → Bool). AreRead place_of content len_of reads (first_live old.group.places old.group.n 0 live) old.slots new.slots 0
          (record { unit_length = len; positions = []; units = [] }) p.have) (live_same old.group.generation) is.read;
    }

    if_same : (needed : Bool) (start : ℕ) (old new : GroupSlots S) (was done : List PulledGroup)
        → IsPulledIf place_of content len_of reads needed shape view dead start old new was done
        → IsPulledIf place_of content len_of reads needed shape view listed start old new was done
    if_same true start old new was done is = (is.0, one_same start shape.unit old new is.0 is.1, is.2)
    if_same false start old new was done is = is

    map_same : (old new : List (GroupSlots S)) (start size : ℕ) (part : Part) (was done : List PulledGroup)
        → ArePulled place_of content len_of reads old new start shape view dead size part was done
        → ArePulled place_of content len_of reads old new start shape view listed size part was done
    map_same [] [] start size part was done is = is
    map_same [] (y ∷ ys) start size part was done is = is
    map_same (x ∷ xs) [] start size part was done is = is
    map_same (x ∷ xs) (y ∷ ys) start size part was done is = (
      is.0,
      if_same (needs shape.unit size part start x.group (is_last xs)) start x y was is.0 is.1,
      map_same xs ys (start + x.group.n) size part is.0 done is.2,
    )

    root_same : (old new : Option (GroupSlots S)) (part : Part) (begun : List PulledGroup)
        → IsRootPulled place_of content len_of reads old new shape view dead part begun
        → IsRootPulled place_of content len_of reads old new shape view listed part begun
    root_same None new part begun is = is
    root_same (Some old) None part begun is = is
    root_same (Some old) (Some new) part begun is = (is.0, one_same 0 (first_len len_of old.slots) old new is.0 is.1, is.2)

    pub all_same : (size : ℕ) (part : Part) (old_root new_root : Option (GroupSlots S)) (old new : List (GroupSlots S)) (groups : List PulledGroup)
        → AreAllPulled place_of content len_of reads shape view dead size part old_root new_root old new groups
        → AreAllPulled place_of content len_of reads shape view listed size part old_root new_root old new groups
    all_same size part old_root new_root old new groups is = record {
      begun = is.begun;
      root = root_same old_root new_root part is.begun is.root;
      map = map_same old new 0 size part is.begun groups is.map;
    }
