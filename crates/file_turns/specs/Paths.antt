-- How a path begins, and when it is refused.
use Rattle.std.specs.Prelude.{◌≡◌, ℕ, ◌+◌, ◌<◌, ◌≤◌, [], length}
use Rattle.board.specs.History.{History}
use Rattle.board.specs.Views.{Sees}
use Rattle.board.specs.declared.board_view.View.{View}
use Rattle.domains.specs.declared.by.By.{By}
use Rattle.fabric.specs.Cells.{FabricView}
use Rattle.fabric.specs.Views.{number_of}
use Rattle.fabric.specs.declared.desk.Desk.{Desk}
use Rattle.fabric.specs.declared.hand.Hand.{Hand}
use Rattle.file_history.specs.declared.entry.FileEvent.TheVariants.{Refused}
use Rattle.file_history.specs.declared.entry.Refused.{Refused as Refusal}
use Rattle.file_core.specs.FileView.{FileView, with_note}
use Rattle.file_core.specs.Notes.{last_epoch_of, noted}
use Rattle.file_turns.specs.PathRoom.{entries_of_path, with_room}
use Rattle.turn_cell.specs.declared.seat.Seat.{Seat}
use Rattle.turn_cell.specs.Seats.{seat_view}

module _ {S : Type 0} where
  -- the hand's seat at the board saw this view, of no earlier epoch than this one; nothing else of the hand is changed
  pub record SeesBoard (f : FabricView) (least : ℕ) (view : View) (old new : Hand S) : Type 0 where
    pub seat : Seat History
    pub only : new ≡ record old { board = seat }
    pub later : least ≤ view.epoch
    pub sees : Sees f.board.seats (number_of old) (seat_view old.board).last (seat_view seat).last view

  -- the path began: the log has room for its entries, and the hand saw this view, no older than the file's last entry
  pub record Begins (f : FabricView) (x : FileView S) (view : View) (old new : Hand S) : Type 0 where
    pub room : length x.notes + entries_of_path x ≤ x.room
    pub sees : SeesBoard f (last_epoch_of x.notes) view old new

  -- the log has no room for the entries of a path, and nothing is changed
  pub record IsFull (x y : FileView S) (old new : Hand S) : Type 0 where
    pub full : x.room < length x.notes + entries_of_path x
    pub file : y ≡ with_room y.spare x
    pub hand : new ≡ old

  -- the log has the room, but there was no memory for the entries, and nothing is changed
  pub record LacksMemory (x y : FileView S) (old new : Hand S) : Type 0 where
    pub room : length x.notes + entries_of_path x ≤ x.room
    pub file : y ≡ with_room y.spare x
    pub hand : new ≡ old

  -- the refusal is noted, and nothing else is changed
  pub record IsRefused (by : By) (view : View) (why : Refusal) (x y : FileView S) : Type 0 where
    pub spare : ℕ
    pub noted : y ≡ with_note (with_room spare x) (noted by view (Refused why) [])

-- what a path leaves of its desk, beside the seats of the hand
pub record KeepsDesk {S G : Type 0} (old new : Desk S G) : Type 0 where
  pub fabric : new.fabric.now ≡ old.fabric.now
  pub gate : new.gate.now ≡ old.gate.now
  pub by : new.by ≡ old.by
  pub hand : new.hand.ghost_name ≡ old.hand.ghost_name
