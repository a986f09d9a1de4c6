-- What a write comes to before any slot is drawn.
use Rattle.std.specs.Prelude.{◌≡◌, ℕ, ◌≤◌, true, Result, Ok, Err}
use Rattle.file_history.specs.World.{Moment}
use Rattle.file_history.specs.Layout.{Layout}
use Rattle.file_history.specs.Refusals.{IsLegalRefusal, MayWrite}
use Rattle.file_history.specs.WriteRule.{AreChunks, affected_groups, generations_of, new_units}
use Rattle.file_history.specs.declared.entry.Refused.TheVariants.{WriteAbsent, WriteTooFew, WriteTooLong}
use Rattle.write_rule.specs.WriteRuns.{IsRunOfWrite}
use Rattle.write_plans.specs.declared.plan.WritePlan.{WritePlan}
use Rattle.write_plans.specs.declared.plan.PlanRefusal.{PlanRefusal}
use Rattle.write_plans.specs.declared.plan.PlanRefusal.TheVariants.{Absent, TooFew, TooLong, NoMemory}

-- the file is there and the write may be made: the plan names the run of groups that it replaces, and the groups that share the data
-- units of the new ones
pub record IsPlan (now : Moment) (l : Layout) (offset len : ℕ) (p : WritePlan) : Type 0 where
  pub present : l.present ≡ true
  pub may : MayWrite now l offset len p.width
  pub wide : 1 ≤ p.width
  pub run : IsRunOfWrite now.shape.unit l offset len p.width p.run
  pub old : p.old ≡ generations_of (affected_groups now.shape.unit l offset len p.width)
  pub chunks : AreChunks (new_units now.shape.unit l offset len p.width) p.width p.chunks

-- what the answer tells: the plan, or a cause by which the write may be refused
abbrev pub PlanTells : Result WritePlan PlanRefusal → Moment → Layout → ℕ → ℕ → Type 0
PlanTells (Ok p) now l offset len = IsPlan now l offset len p
PlanTells (Err Absent) now l offset len = IsLegalRefusal now l (WriteAbsent offset len)
PlanTells (Err (TooFew fault)) now l offset len = IsLegalRefusal now l (WriteTooFew offset len fault)
PlanTells (Err (TooLong count)) now l offset len = IsLegalRefusal now l (WriteTooLong offset len count)
PlanTells (Err NoMemory) now l offset len = l.present ≡ true
