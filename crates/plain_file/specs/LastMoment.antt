-- The moment of the board's last entry.
use Rattle.std.specs.Prelude.{List, length}
use Rattle.domains.specs.Shape.{Shape}
use Rattle.domains.specs.Level.{two_copies}
use Rattle.board_history.specs.declared.entry.BoardEntry.{BoardEntry}
use Rattle.file_history.specs.World.{Moment, world_of, moment_at}

-- the moment of the last epoch, for a file that was declared with two copies
abbrev pub last_moment : Shape → List BoardEntry → Moment
last_moment shape board = moment_at (world_of shape board two_copies) (length board)
