-- What slots are asked for, for the groups of a run and for an inode.
use Rattle.std.specs.Prelude.{◌≡◌, ℕ, false, ◌&&◌}
use Rattle.domains.specs.Drive.{Drive}
use Rattle.domains.specs.DriveSet.{has}
use Rattle.domains.specs.Shape.{Shape}
use Rattle.placement_order.specs.Order.{DrawRequest}
use Rattle.placed_runs.specs.declared.terms.RunTerms.{RunTerms}

-- slots are asked for a new group with this spin: at the level of the run, on its usable drives that are up in the view
pub record IsAskedFor (t : RunTerms) (shape : Shape) (spin : ℕ) (s : DrawRequest) : Type 0 where
  pub level : s.level ≡ t.level
  pub shape_is : s.shape ≡ shape
  pub usable : (d : Drive) → s.usable d ≡ (has t.usable d && has t.view.up d)
  pub used : (d : Drive) → s.used d ≡ false
  pub spin_is : s.spin ≡ spin
