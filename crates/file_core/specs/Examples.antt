-- The cluster of the tests: two nodes with a drive each, of four slots of 8 bytes.
use Rattle.std.specs.Prelude.{◌≡◌, []}
use Rattle.flex_io.specs.declared.raw_place.RawPlace.{RawPlace}
use Rattle.domains.specs.Drive.{Drive, IsDrive}
use Rattle.domains.specs.DriveSet.{has}
use Rattle.domains.specs.Level.{two_copies}
use Rattle.domains.specs.Shape.{Shape, is_of}
use Rattle.board.specs.declared.board_view.View.{View}
use Rattle.file_core.specs.FileView.{FileView}

abbrev pub small : Shape
small = record { nodes = 2; drives = 1; slots = 4; unit = 8 }

-- a slot of each drive
abbrev pub first : RawPlace
first = record { node = 1; drive = 1; slot = 0 }

abbrev pub second : RawPlace
second = record { node = 2; drive = 1; slot = 3 }

-- the view of a board without entries
pub record SeesAll (view : View) : Type 0 where
  pub epoch : view.epoch ≡ 0
  pub up : (d : Drive) → IsDrive d → has view.up d ≡ is_of small d

-- a file without entries, declared at two copies
pub record IsNew {S : Type 0} (file : FileView S) : Type 0 where
  pub shape : file.shape ≡ small
  pub level : file.level ≡ two_copies
  pub notes : file.notes ≡ []
