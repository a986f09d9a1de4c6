-- What the new units of a write are asked for.
use Rattle.std.specs.Prelude.{◌≡◌, true, ◌&&◌}
use Rattle.board.specs.declared.board_view.View.{View}
use Rattle.domains.specs.Drive.{Drive}
use Rattle.domains.specs.DriveSet.{has}
use Rattle.domains.specs.Shape.{is_of}
use Rattle.file_core.specs.FileView.{FileView, layout_of, now_of}
use Rattle.file_history.specs.Refusals.{is_usable}
use Rattle.placed_runs.specs.declared.terms.RunTerms.{RunTerms}

-- the terms are those of the file at the view: its requested level and stripe unit, and exactly the drives that may hold its new units
pub record AreExactTerms {S : Type 0} (x : FileView S) (view : View) (t : RunTerms) : Type 0 where
  pub level : t.level ≡ (layout_of x).requested
  pub unit : t.unit ≡ x.shape.unit
  pub view_is : t.view ≡ view
  pub usable : (d : Drive) → is_of x.shape d ≡ true → (has t.usable d && has t.view.up d) ≡ is_usable (now_of x view) (layout_of x) d
