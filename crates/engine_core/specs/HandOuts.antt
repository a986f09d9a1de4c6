-- Hand-outs.
use Rattle.std.specs.Prelude.{◌≡◌, ℕ, Some}
use Rattle.job_rules.specs.declared.rank.JobView.{JobView}
use Rattle.engine_history.specs.Jobs.{find_job}
use Rattle.engine_history.specs.Steps.{next_job}
use Rattle.engine_history.specs.declared.job.JobState.{JobState}
use Rattle.engine_core.specs.EngineView.{EngineView, jobs_now}
use Rattle.engine_core.specs.Tasks.{task_in}
use Rattle.engine_core.specs.declared.work.Task.{Task}

-- the task is that of the job served next
pub record HandsOut (e : EngineView) (most : ℕ) (task : Task) : Type 0 where
  pub view : JobView
  pub served : next_job (jobs_now e) ≡ Some view
  pub state : JobState
  pub found : find_job view.job (jobs_now e) ≡ Some state
  pub items : task ≡ task_in state most
