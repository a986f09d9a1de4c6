-- What a write does to the map of a file.
use Rattle.std.specs.Prelude.{◌≡◌, ℕ, Option, None, Some}
use Rattle.file_history.specs.World.{Moment}
use Rattle.file_history.specs.Layout.{Layout}
use Rattle.file_history.specs.Refusals.{width_at}
use Rattle.file_history.specs.WriteRule.{groups_after_write}
use Rattle.write_rule.specs.WriteRuns.{IsRunOfWrite}
use Rattle.write_checks.specs.declared.plan.Plan.{Plan}

-- the plan is that of a write of the range whose new groups have at most `width` data units
pub record IsPlan (p : Plan) (now : Moment) (l : Layout) (offset len width : ℕ) : Type 0 where
  pub run : IsRunOfWrite now.shape.unit l offset len width p.run
  pub groups : p.groups ≡ groups_after_write now.shape.unit l offset len width

-- there is a plan where the drives have room for a group, and it is that of the write
pub record PlansAs (p : Plan) (now : Moment) (l : Layout) (offset len : ℕ) : Type 0 where
  pub wide : width_at now l ≡ Some p.width
  pub plan : IsPlan p now l offset len p.width

abbrev pub PlansWrite : Option Plan → Moment → Layout → ℕ → ℕ → Type 0
PlansWrite None now l offset len = width_at now l ≡ None
PlansWrite (Some p) now l offset len = PlansAs p now l offset len
