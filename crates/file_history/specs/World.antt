-- What a file's history stands in.
use Rattle.std.specs.Prelude.{ℕ, Bool, List, length}
use Rattle.domains.specs.Drive.{Drive}
use Rattle.domains.specs.Shape.{Shape}
use Rattle.domains.specs.Level.{Level}
use Rattle.board_history.specs.Board.{up_after, gone_after}
use Rattle.board_history.specs.declared.entry.BoardEntry.{BoardEntry}

-- the level that a file was declared with, the cluster, how many entries the board's log has, and which drives of the cluster
-- are up, and which are gone, after the first entries of it
pub record World : Type 0 where
  pub level : Level
  pub shape : Shape
  pub epochs : ℕ
  pub up : ℕ → Drive → Bool
  pub gone : ℕ → Drive → Bool

-- the world of a file that was declared with this level, beside this log of the board
abbrev pub world_of : Shape → List BoardEntry → Level → World
world_of shape board level = record {
  level = level;
  shape = shape;
  epochs = length board;
  up = up_after shape board;
  gone = gone_after shape board;
}

-- the world at one epoch
pub record Moment : Type 0 where
  pub level : Level
  pub shape : Shape
  pub up : Drive → Bool
  pub gone : Drive → Bool

abbrev pub moment_at : World → ℕ → Moment
moment_at world epoch = record { level = world.level; shape = world.shape; up = world.up epoch; gone = world.gone epoch }
