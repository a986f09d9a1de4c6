-- Tasks and the work of their items.
use Rattle.std.specs.Prelude.{ℕ, zero, suc, Bool, true, ◌==◌, if◌then◌else◌, List, [], ◌∷◌, drop, Option, Some, None}
use Rattle.std.specs.List.{position_or_len}
use Rattle.job_rules.specs.Rank.{rank_before}
use Rattle.job_rules.specs.declared.rank.JobView.{JobView}
use Rattle.checkpoints.specs.declared.checkpoint.ItemSaved.{ItemSaved}
use Rattle.checkpoints.specs.declared.checkpoint.ItemSaved.TheVariants.{ToDo, Out, Whole, Lost, Short}
use Rattle.engine_history.specs.Items.{is_to_do}
use Rattle.engine_history.specs.Jobs.{find_job}
use Rattle.engine_history.specs.declared.job.JobState.{JobState}
use Rattle.engine_core.specs.EngineView.{EngineView, begun_by, jobs_now}
use Rattle.engine_core.specs.declared.begun.Begun.{Begun}
use Rattle.engine_core.specs.declared.work.Task.{Task}
use Rattle.engine_core.specs.declared.work.Work.{Work}

-- it ranks before the first job so far
abbrev pub is_sooner : Option JobView → JobView → Bool
is_sooner None v = true
is_sooner (Some best) v = rank_before v best

-- how many of the first `most` items are to do, up to the first that is not
abbrev pub run_of : ℕ → List ItemSaved → ℕ
run_of zero items = 0
run_of (suc most) [] = 0
run_of (suc most) (i ∷ is) = if is_to_do i then suc (run_of most is) else 0

abbrev pub task_at : JobState → ℕ → ℕ → Task
task_at j first most = record { job = j.job; phase = j.phase; first = first; count = run_of most (drop first j.items) }

-- the first item to do of the job and those that follow it directly, at most `most`
abbrev pub task_in : JobState → ℕ → Task
task_in j most = task_at j (position_or_len is_to_do j.items) most

-- the position of an item that is out
abbrev pub next_of : ItemSaved → Option ℕ
next_of (ToDo next) = None
next_of (Out next) = Some next
next_of Whole = None
next_of Lost = None
next_of Short = None

abbrev pub next_among : ℕ → List ItemSaved → Option ℕ
next_among item [] = None
next_among zero (i ∷ is) = next_of i
next_among (suc item) (i ∷ is) = next_among item is

abbrev pub work_from : JobState → ℕ → Option ℕ → Option Work
work_from j item None = None
work_from j item (Some next) = Some (record { job = j.job; kind = j.kind; phase = j.phase; item = item; bars = j.bars; from_group = next })

-- the work of an item of this phase of the job, if it is out
abbrev pub work_in : Option JobState → ℕ → ℕ → Option Work
work_in None phase item = None
work_in (Some j) phase item = if j.phase == phase then work_from j item (next_among item j.items) else None

abbrev pub unless_begun : Option Begun → Option Work → Option Work
unless_begun None work = work
unless_begun (Some b) work = None

-- the work of the task's item, if it is out in the task's phase and no seat has begun it
abbrev pub work_of : EngineView → Task → ℕ → Option Work
work_of e task item = unless_begun (begun_by e task.job item) (work_in (find_job task.job (jobs_now e)) task.phase item)
