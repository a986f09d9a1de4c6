-- The first creation of the tests is legal.
use Rattle.std.proofs.Common.{◌≡◌, ◌++◌, Bool, true, ◌&&◌, List, [], ◌∷◌, map, refl, sym, ap, subst, ◌∙◌, lit≤}
use Rattle.flex_io.specs.declared.raw_place.RawPlace.{RawPlace}
use Rattle.domains.specs.Drive.{IsDrive}
use Rattle.domains.specs.DriveSet.{has}
use Rattle.domains.specs.Level.{two_copies}
use Rattle.domains.specs.Place.{Place}
use Rattle.domains.specs.declared.group.Group.{Group}
use Rattle.board.specs.declared.board_view.View.{View}
use Rattle.held_slots.specs.Slots.{place_from, places_from}
use Rattle.file_history.specs.Layout.{Layout, empty_layout, layout_after}
use Rattle.file_history.specs.Step.{Creates}
use Rattle.file_core.specs.Notes.{kept_view, last_epoch_of, moment_of, noted, told_of}
use Rattle.domains.specs.declared.by.By.{By}
use Rattle.file_history.specs.declared.entry.FileEvent.TheVariants.{Created}
use Rattle.file_core_tests.specs.Placements.{created}
use Rattle.file_core.specs.FileView.{FileView, now_of, layout_of}
use Rattle.file_core.specs.Creation.{created_on, inode_group}
use Rattle.file_core.specs.Examples.{IsNew, SeesAll, first, second, small}
use Rattle.std.proofs.lemmas.Simd.{map-map}
use Rattle.domains.specs.Shape.{Shape}
use Rattle.domains.specs.Level.{Level}
use Rattle.turn_cell.specs.declared.chronicle.Note.{Note}
use Rattle.file_core.specs.declared.noted.Noted.{Noted}

pub is_first : IsDrive (record { node = 1; drive = 1 })
is_first = record { some_node = lit≤ tt; nodes = lit≤ tt; some_drive = lit≤ tt; drives = lit≤ tt }

pub is_second : IsDrive (record { node = 2; drive = 1 })
is_second = record { some_node = lit≤ tt; nodes = lit≤ tt; some_drive = lit≤ tt; drives = lit≤ tt }

-- the inode's group
abbrev made : Group
made = record { generation = 0; n = 1; m = 1; places = place_from first ∷ place_from second ∷ [] }

creates : (view : View) → SeesAll view → Creates (moment_of small two_copies (kept_view view)) (empty_layout two_copies) made
creates view sees =
    let up_first = sees.up (record { node = 1; drive = 1 }) is_first in
    let up_second = sees.up (record { node = 2; drive = 1 }) is_second in
    let usable_first : has view.up (record { node = 1; drive = 1 }) && true ≡ true = ap (λ (b : Bool). b && true) up_first in
    let usable_second : has view.up (record { node = 2; drive = 1 }) && true ≡ true = ap (λ (b : Bool). b && true) up_second in record {
      absent = refl;
      level = record {
        one = refl;
        at_level = record {
          some = lit≤ tt;
          narrow = lit≤ tt;
          corrected = refl;
          whole = refl;
          apart = (refl, (refl, tt));
          spread = (lit≤ tt, (lit≤ tt, tt));
        };
      };
      number = refl;
      places = record {
        each = (
          record { drive = refl; slot = lit≤ tt; usable = usable_first; free = refl },
          (record { drive = refl; slot = lit≤ tt; usable = usable_second; free = refl }, tt),
        );
        distinct = ((refl, tt), (tt, tt));
      };
    }

-- on slots at these places
pub first_creation : {S : Type 0} (place_of : S → RawPlace) (file : FileView S) (view : View) (slots : List S) → IsNew file → SeesAll view
    → map place_of slots ≡ first ∷ second ∷ [] → Creates (now_of file view) (layout_of file) (inode_group place_of (layout_of file) slots)
first_creation place_of file view slots new sees places =
    let stand : places_from place_of slots ≡ place_from first ∷ place_from second ∷ [] =
    sym (map-map place_from place_of slots) ∙ ap (map place_from) places in
    subst (λ (x : Shape × Level × List (Note Noted) × List Place).
    let l : Layout = layout_after x.1 (told_of x.2) in
    Creates (moment_of x.0 x.1 (kept_view view)) l (record { generation = l.next; n = 1; m = l.requested.m; places = x.3 }))
    (λ i. (sym new.shape i, sym new.level i, sym new.notes i, sym stand i)) (creates view sees)

-- what the file is then
pub first_layout : {S : Type 0} (place_of : S → RawPlace) (by : By) (file : FileView S) (view : View) (slots : List S) → IsNew file
    → map place_of slots ≡ first ∷ second ∷ [] → layout_of (created_on place_of by view slots file) ≡ created
first_layout place_of by file view slots new places =
    let stand : places_from place_of slots ≡ place_from first ∷ place_from second ∷ [] =
    sym (map-map place_from place_of slots) ∙ ap (map place_from) places in
    subst (λ (x : Level × List (Note Noted) × List Place).
    let l : Layout = layout_after x.0 (told_of x.1) in
    layout_after x.0 (told_of (x.1 ++ record {
      turn = file.turns;
      seat = file.seat;
      entry = noted by view (Created (record { generation = l.next; n = 1; m = l.requested.m; places = x.2 })) [];
    } ∷ [])) ≡ created)
    (λ i. (sym new.level i, sym new.notes i, sym stand i)) refl

-- and the epoch of its one entry
pub first_epoch : {S : Type 0} (place_of : S → RawPlace) (by : By) (file : FileView S) (view : View) (slots : List S) → IsNew file → SeesAll view
    → last_epoch_of (created_on place_of by view slots file).notes ≡ 0
first_epoch place_of by file view slots new sees =
    subst (λ (notes : List (Note Noted)).
    last_epoch_of (notes ++ record { turn = file.turns; seat = file.seat; entry = noted by view (Created (inode_group place_of (layout_of file) slots)) [] } ∷ []) ≡ 0)
    (sym new.notes) sees.epoch
