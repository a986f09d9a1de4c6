-- What a stock keeps true of its parts.
use Rattle.std.specs.Prelude.{◌≡◌, not, List, length}
use Rattle.flex_io.specs.declared.raw_place.RawPlace.{RawPlace}
use Rattle.domains.specs.Drive.{Drive, IsDrive}
use Rattle.domains.specs.Shape.{Shape}
use Rattle.domains.specs.DriveSet.{has}
use Rattle.domains.specs.declared.drive_set.DriveSet.{DriveSet}
use Rattle.board_history.specs.Board.{state_after, up_after, is_up, is_gone}
use Rattle.board_history.specs.declared.entry.BoardEntry.{BoardEntry}
use Rattle.plain_file.specs.Slots.{AreOf}

-- the set has the drives that are up after the log, and the slots are of the cluster
pub record KeepsStock {S : Type 0} (place_of : S → RawPlace) (shape : Shape) (board : List BoardEntry) (up : DriveSet) (free retired : List S) : Type 0 where
  pub up_set : (d : Drive) → IsDrive d → has up d ≡ up_after shape board (length board) d
  -- no drive is down: one that is not up is gone
  pub gone : (d : Drive) → is_gone (state_after board d) ≡ not (is_up (state_after board d))
  pub free_of : AreOf place_of shape free
  pub retired_of : AreOf place_of shape retired
