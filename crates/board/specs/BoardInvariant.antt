-- What holds of the parts of every board.
use Rattle.std.specs.Prelude.{◌≡◌, ℕ, ◌≤◌, ◌<◌, ◌^◌, List, length}
use Rattle.domains.specs.Shape.{Shape}
use Rattle.board_history.specs.Board.{IsLegalBoardLog}
use Rattle.board_history.specs.declared.entry.BoardEntry.{BoardEntry}
use Rattle.board.specs.declared.entry_stamp.EntryStamp.{EntryStamp}
use Rattle.board.specs.declared.drive_states.DriveStates.{DriveStates}
use Rattle.board.specs.DriveStates.{HasStates}

-- each entry has its stamp, the log is legal and within its room, and the states are those that it leaves
pub record BoardInvariant (shape : Shape) (room : ℕ) (entries : List BoardEntry) (stamps : List EntryStamp) (now : DriveStates) : Type 0 where
  pub stamped : length stamps ≡ length entries
  pub legal : IsLegalBoardLog shape entries
  pub within : length entries ≤ room
  pub small : room < 2 ^ 32
  pub states : HasStates shape entries now
