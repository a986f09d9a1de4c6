-- What a turn of a seat may make of an engine, and what a seat has begun.
use Rattle.std.specs.Prelude.{◌≡◌, ℕ, ◌<◌, ◌≤◌, List, ◌++◌, length, Some}
use Rattle.domains.specs.Shape.{Shape}
use Rattle.turn_cell.specs.Histories.{Changed, Follows}
use Rattle.turn_cell.specs.declared.chronicle.Note.{Note}
use Rattle.engine_history.specs.Begun.{NoneTouches}
use Rattle.engine_history.specs.declared.entry.EngineEntry.{EngineEntry}
use Rattle.job_rules.specs.declared.job.JobId.{JobId}
use Rattle.job_log.specs.Jobs.{place_of}
use Rattle.engine_core.specs.BegunItems.{tally_of}
use Rattle.engine_core.specs.EngineView.{EngineView, begun_by, jobs_now}
use Rattle.engine_core.specs.declared.begun.Begun.{Begun}

-- a turn of the seat may make y of x
abbrev pub ChangesEngine : ℕ → EngineView → EngineView → Type 0
ChangesEngine seat x y = Changed {F = Shape × ℕ × ℕ} (λ (e : EngineView). e.log.turns) (λ (e : EngineView). e.log.notes) (λ (e : EngineView) (k : ℕ). tally_of e.begun k) (λ (e : EngineView). (e.log.field.shape, e.log.field.files, e.log.room)) seat x y

-- the engine as a seat finds it that has made no turn since the one that left `last`
abbrev pub FollowsEngine : ℕ → EngineView → EngineView → Type 0
FollowsEngine seat last now = Follows {F = Shape × ℕ × ℕ} (λ (e : EngineView). e.log.turns) (λ (e : EngineView). e.log.notes) (λ (e : EngineView) (k : ℕ). tally_of e.begun k) (λ (e : EngineView). (e.log.field.shape, e.log.field.files, e.log.room)) seat last now

-- the seat has begun the item of the job
pub record HasBegun (seat : ℕ) (e : EngineView) (job : JobId) (item : ℕ) : Type 0 where
  pub order : ℕ
  pub placed : place_of job (jobs_now e) ≡ Some order
  pub few : item < 256
  pub begun : Begun
  pub here : begun_by e job item ≡ Some begun
  pub own : begun.seat ≡ seat
  pub early : begun.at ≤ length e.log.notes

-- no note that stands in now behind those of last hands the item out, progresses it, ends it or gives it back
abbrev pub IsUntouched : EngineView → EngineView → JobId → ℕ → Type 0
IsUntouched last now job item = (more : List (Note EngineEntry)) → now.log.notes ≡ last.log.notes ++ more → NoneTouches job item more
