-- Items from `begin` to their end.
use Rattle.std.specs.Prelude.{◌≡◌, ℕ, zero, suc, ◌<◌, Bool, true, false, ◌==◌, if◌then◌else◌, List, length, Option, Some, None}
use Rattle.domains.specs.declared.by.By.{By}
use Rattle.job_rules.specs.declared.job.JobId.{JobId}
use Rattle.turn_cell.specs.Notes.{entries_by}
use Rattle.engine_history.specs.Jobs.{Field, after_event, find_job}
use Rattle.engine_history.specs.Steps.{IsFreeStep, World, due, is_item_out}
use Rattle.engine_history.specs.declared.entry.EngineEvent.{EngineEvent}
use Rattle.engine_history.specs.declared.entry.EngineEvent.TheVariants as event
use Rattle.engine_history.specs.declared.job.JobState.{JobState}
use Rattle.job_log.specs.Jobs.{place_of}
use Rattle.engine_core.specs.BegunItems.{place_in}
use Rattle.engine_core.specs.EngineView.{EngineView, jobs_now, with_begun}
use Rattle.engine_core.specs.declared.items.Go.{Go}
use Rattle.engine_core.specs.declared.items.Go.TheVariants.{On, Yield}
use Rattle.engine_core.specs.Tasks.{work_in}
use Rattle.engine_core.specs.declared.work.Task.{Task}
use Rattle.engine_core.specs.declared.work.Work.{Work}

-- the engine once the seat of this turn has begun the item, if there is work
abbrev pub after_begin : EngineView → JobId → ℕ → Option Work → EngineView
after_begin e job item None = e
after_begin e job item (Some work) = with_begun e job item (Some (record { seat = e.log.seat; at = length e.log.notes }))

-- go on where the item is out and the job is one of those that run
abbrev pub go_of : Bool → Bool → Go
go_of true true = On
go_of true false = Yield
go_of false runs = Yield

abbrev pub worked_event : ℕ → ℕ → EngineEvent
worked_event asked steps = if asked == 0 then event.Drain steps else event.Work asked steps

-- the entry of `work` or `drain` is legal where nothing is due: what it says of steps and items stands among the seat's own entries
abbrev pub IsWorkLegal : EngineView → By → ℕ → ℕ → Type 0
IsWorkLegal e by asked steps = (world : World) → IsFreeStep world (jobs_now e) (entries_by e.log.seat e.log.notes) by (worked_event asked steps)

abbrev pub IsDueLess : ℕ → Field → List JobState → Option EngineEvent → Type 0
IsDueLess n field jobs None = Unit {0}
IsDueLess zero field jobs (Some e) = ⊥
IsDueLess (suc n) field jobs (Some e) = IsDueLess n field (after_event field e jobs) (due (after_event field e jobs))

-- once at most n entries that are due stand in the log, nothing more is due
abbrev pub IsDueWithin : ℕ → Field → List JobState → Type 0
IsDueWithin n field jobs = IsDueLess n field jobs (due jobs)

-- the place of the item among those that may be begun; none where it is not out
abbrev pub IsOutAt : List JobState → JobId → ℕ → Option ℕ → Type 0
IsOutAt jobs job item None = is_item_out jobs job item ≡ false
IsOutAt jobs job item (Some place) = (order : ℕ) × (place_of job jobs ≡ Some order) × (place ≡ place_in order item) × (place < 16384) × (is_item_out jobs job item ≡ true) × (item < 256)

-- the work of the task's item, and its place among those that may be begun; none where it is not out in the task's phase
abbrev pub IsWorkAt : List JobState → Task → ℕ → Option (ℕ × Work) → Type 0
IsWorkAt jobs task item None = work_in (find_job task.job jobs) task.phase item ≡ None
IsWorkAt jobs task item (Some found) =
    (order : ℕ) × (place_of task.job jobs ≡ Some order) × (found.0 ≡ place_in order item) × (found.0 < 16384)
    × (work_in (find_job task.job jobs) task.phase item ≡ Some found.1) × (is_item_out jobs task.job item ≡ true) × (item < 256) × (found.1.job ≡ task.job) × (found.1.item ≡ item)
