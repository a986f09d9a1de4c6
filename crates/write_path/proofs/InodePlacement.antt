-- What the placement of an inode's units comes to.
use Rattle.std.proofs.Common.{◌≡◌, ℕ, ◌+◌, ◌≤◌, false, ◌&&◌, not, List, Option, Result, OnOk, OnErr, IfErr, sym, subst, arith}
use Rattle.std.specs.List.{AllByRecursion}
use Rattle.board.specs.declared.board_view.View.{View}
use Rattle.domains.specs.Drive.{Drive, IsDrive}
use Rattle.domains.specs.DriveSet.{has}
use Rattle.domains.specs.Level.{IsLevel}
use Rattle.domains.specs.Shape.{Shape}
use Rattle.domains.specs.declared.by.By.{By}
use Rattle.domains.specs.declared.drive_set.DriveSet.{DriveSet}
use Rattle.flex_io.specs.declared.raw_place.RawPlace.{RawPlace}
use Rattle.fabric.specs.declared.hand.Hand.{Hand}
use Rattle.inode_codec.specs.Inode.{inode_bytes}
use Rattle.file_history.specs.Refusals.{IsLegalRefusal, room_at}
use Rattle.file_history.specs.Step.{Creates}
use Rattle.file_history.specs.declared.entry.Refused.TheVariants.{CreateNoRoom}
use Rattle.striped_groups.specs.StoredGroups.{Took}
use Rattle.file_core.specs.Creation.{created_on, empty_inode, inode_group}
use Rattle.file_core.specs.FileView.{FileView, IsFile, layout_of, now_of}
use Rattle.file_core.specs.Looks.{IsLook}
use Rattle.file_core.specs.declared.looks.Look.{Look}
use Rattle.placement_order.specs.Order.{DrawRequest}
use Rattle.placement.specs.PlacedGroups.{FindsNoPlace, Places}
use Rattle.placement.specs.declared.refusal.NoRoom.{NoRoom}
use Rattle.slot_search.specs.HandSeats.{draw_request, drives_at}
use Rattle.turn_cell.specs.Seats.{seat_view}
use Rattle.file_turns.specs.NewInodes.{AsksForInode}
use Rattle.write_path.specs.Creations.{NotesNoRoom, PlaceTells, units_of_inode}
use Rattle.write_path.specs.declared.creation.CreateRefusal.{CreateRefusal}
use Rattle.write_path.specs.declared.creation.CreateRefusal.TheVariants.{NoMemory}
use Rattle.write_path.proofs.CreatedInode.{creates_on, spelled, wide}
use Rattle.write_path.proofs.CreationLemmas.{absent_none, failed, tells_noted, tells_switched}
use Rattle.write_path.proofs.InodeRoom.{asks_for_inode, no_room_is_legal}

module _ {S : Type 0} (place_of : S → RawPlace) (content : S → Option (List ℕ)) (len_of faults : S → ℕ) (x : FileView S) (view : View) (look : Look) (count : ℕ)
    (usable none : DriveSet) (spin : ℕ) (shape : Shape) (units : List (List ℕ)) (is : IsFile place_of content len_of x) (looks : IsLook (layout_of x) count look)
    (made : (d : Drive) → IsDrive d → has usable d ≡ (has view.up d && not (has look.barred d))) (empty : (d : Drive) → has none d ≡ false)
    (spins : spin ≡ x.file + look.next_generation) (same : x.shape ≡ shape) (units_are : units ≡ units_of_inode x) where
  abbrev request : DrawRequest
  request = draw_request look.level shape view usable none spin

  asks : AsksForInode x view request
  asks = asks_for_inode x view look count usable none spin is.cluster looks made empty spins shape (sym same)

  of_inode : (slots : List S) (old new : Hand S) → Places place_of content len_of faults request units slots old new
      → Places place_of content len_of faults request (units_of_inode x) slots old new
  of_inode slots old new placed = subst (λ (u : List (List ℕ)). Places place_of content len_of faults request u slots old new) units_are placed

  finds : (told : NoRoom) (old new : Hand S) → FindsNoPlace place_of content len_of faults request units told old new
      → FindsNoPlace place_of content len_of faults request (units_of_inode x) told old new
  finds told old new found = subst (λ (u : List (List ℕ)). FindsNoPlace place_of content len_of faults request u told old new) units_are found

  -- the file may be created on the slots
  pub placed_legal : IsLevel look.level → (layout_of x).present ≡ false → (slots : List S) (old new : Hand S)
      → Places place_of content len_of faults request units slots old new → Creates (now_of x view) (layout_of x) (inode_group place_of (layout_of x) slots)
  placed_legal level absent slots old new placed =
      creates_on place_of content len_of faults x view request slots old new asks (of_inode slots old new placed)
      (wide (layout_of x).requested (subst IsLevel looks.level level)) absent (absent_none place_of content len_of x is absent)

  -- they hold the inode
  pub placed_took : (slots : List S) (old new : Hand S) → Places place_of content len_of faults request units slots old new
      → AllByRecursion (Took content len_of (inode_bytes (empty_inode x.level x.shape.unit))) slots
  placed_took slots old new placed = spelled place_of content len_of faults x view request slots old new asks (of_inode slots old new placed)

  -- the refusal has its cause
  pub none_legal : (layout_of x).present ≡ false → (layout_of x).requested.m + 1 ≤ room_at (now_of x view) (layout_of x) → (told : NoRoom) (old new : Hand S)
      → FindsNoPlace place_of content len_of faults request units told old new
      → IsLegalRefusal (now_of x view) (layout_of x) (CreateNoRoom told.need told.got (drives_at told.empty))
  none_legal absent enough told old new found =
      no_room_is_legal place_of content len_of faults x view request told old new asks (finds told old new found) absent enough

  -- what is answered, once the slots are there
  pub placed_tells : (other by : By) → other ≡ by → (y : FileView S) (looked placed new : Hand S) (slots : List S)
      → Places place_of content len_of faults request units slots looked placed → seat_view placed.board ≡ seat_view looked.board
      → {T : Type 0} (result : Result T CreateRefusal) → OnOk result (y ≡ created_on place_of other view slots x) → OnOk result (new ≡ placed) → OnErr result (y ≡ x) → IfErr result (λ e. e ≡ NoMemory)
      → PlaceTells place_of content len_of faults result by view x y looked new
  placed_tells other by is_by y looked placed new slots found board result created =
      tells_switched place_of content len_of faults by view x y looked placed new request slots asks (of_inode slots looked placed found) board result
      (subst (λ (b : By). OnOk result (y ≡ created_on place_of b view slots x)) is_by created)

  -- what is answered, if there are none
  pub none_tells : (other by : By) → other ≡ by → (told : NoRoom) (y : FileView S) (looked new : Hand S)
      → FindsNoPlace place_of content len_of faults request units told looked new → seat_view new.board ≡ seat_view looked.board → (T : Type 0) (e : CreateRefusal)
      → NotesNoRoom e other view told x y → PlaceTells place_of content len_of faults (failed T e) by view x y looked new
  none_tells other by is_by told y looked new found board T e notes =
      tells_noted place_of content len_of faults by view told x y looked new request asks (finds told looked new found) board T e
      (subst (λ (b : By). NotesNoRoom e b view told x y) is_by notes)

-- the next generation of a file has a bound
pub next_bound : {S : Type 0} (place_of : S → RawPlace) (content : S → Option (List ℕ)) (len_of : S → ℕ) (x : FileView S) (look : Look) (count : ℕ)
    → IsFile place_of content len_of x → IsLook (layout_of x) count look → look.next_generation ≤ 1077936128
next_bound place_of content len_of x look count is looks =
    let numbers = is.numbers in
    let within = is.within in
    let few = is.few in
    let next = looks.next in
    omega (arith, numbers, within, few, next)
