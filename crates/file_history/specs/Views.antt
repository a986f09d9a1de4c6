-- A file's history beside the views of the drives that it noted, one an epoch.
use Rattle.std.specs.Prelude.{◌≡◌, ℕ, Bool, true, false, ◌==◌, ◌&&◌, List, [], ◌∷◌, Option, None, Some, if◌then◌else◌}
use Rattle.domains.specs.Drive.{Drive}
use Rattle.domains.specs.DriveSet.{has}
use Rattle.domains.specs.Shape.{Shape, is_of}
use Rattle.domains.specs.Level.{Level}
use Rattle.board_history.specs.Board.{up_after, gone_after}
use Rattle.board_history.specs.declared.entry.BoardEntry.{BoardEntry}
use Rattle.file_history.specs.World.{World, Moment}
use Rattle.file_history.specs.declared.view.EpochView.{EpochView}

-- the view of this epoch
abbrev pub view_at : List EpochView → ℕ → Option EpochView
view_at [] epoch = None
view_at (v ∷ vs) epoch = if v.epoch == epoch then Some v else view_at vs epoch

-- the drive is one of the cluster that is up in the view
abbrev pub is_up_in : Option EpochView → Shape → Drive → Bool
is_up_in None shape d = false
is_up_in (Some v) shape d = is_of shape d && has v.up d

-- the drive is one of the cluster that is gone in the view
abbrev pub is_gone_in : Option EpochView → Shape → Drive → Bool
is_gone_in None shape d = false
is_gone_in (Some v) shape d = is_of shape d && has v.gone d

-- the moment of a file that was declared with this level, by the view of its epoch
abbrev pub moment_in : Shape → Level → Option EpochView → Moment
moment_in shape level view = record { level = level; shape = shape; up = is_up_in view shape; gone = is_gone_in view shape }

-- the world of a file that was declared with this level, after this many entries of the board's log, by the views that it noted
abbrev pub world_seen : Shape → Level → ℕ → List EpochView → World
world_seen shape level epochs views = record {
  level = level;
  shape = shape;
  epochs = epochs;
  up = λ epoch. is_up_in (view_at views epoch) shape;
  gone = λ epoch. is_gone_in (view_at views epoch) shape;
}

-- the view is what this log of the board says after as many entries
pub record IsViewOf (shape : Shape) (board : List BoardEntry) (v : EpochView) : Type 0 where
  pub up : (d : Drive) → is_of shape d ≡ true → has v.up d ≡ up_after shape board v.epoch d
  pub gone : (d : Drive) → is_of shape d ≡ true → has v.gone d ≡ gone_after shape board v.epoch d
