-- What is asked of the order of placement for the inode of a file.
use Rattle.std.specs.Prelude.{◌≡◌, ℕ, ◌+◌, true, false}
use Rattle.board.specs.declared.board_view.View.{View}
use Rattle.domains.specs.Drive.{Drive}
use Rattle.domains.specs.Shape.{is_of}
use Rattle.placement_order.specs.Order.{DrawRequest}
use Rattle.file_history.specs.Refusals.{is_usable}
use Rattle.file_core.specs.FileView.{FileView, layout_of, now_of}

-- slots are asked for the inode: at the requested level, on the drives that are usable at the view, in the order that the file's
-- number and its next generation give
pub record AsksForInode {S : Type 0} (x : FileView S) (view : View) (s : DrawRequest) : Type 0 where
  pub level : s.level ≡ (layout_of x).requested
  pub shape : s.shape ≡ x.shape
  pub usable : (d : Drive) → is_of x.shape d ≡ true → s.usable d ≡ is_usable (now_of x view) (layout_of x) d
  pub used : (d : Drive) → s.used d ≡ false
  pub spin : s.spin ≡ x.file + (layout_of x).next
