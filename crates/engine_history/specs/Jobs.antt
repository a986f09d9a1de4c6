-- The jobs that the engine's log leaves, and what the rules see of them.
use Rattle.std.specs.Prelude.{ℕ, ◌+◌, ◌*◌, nat_lt, ◌==◌, Bool, true, false, not, ◌&&◌, ◌||◌, if◌then◌else◌, List, [], ◌∷◌, ◌++◌, length, map, Option, Some, None}
use Rattle.std.specs.List.{filter, find, list_all, list_any}
use Rattle.domains.specs.Shape.{Shape}
use Rattle.domains.specs.declared.drive_set.DriveSet.{DriveSet}
use Rattle.job_rules.specs.Kinds.{phase_at}
use Rattle.job_rules.specs.Phases.{items_of}
use Rattle.job_rules.specs.declared.job.JobId.{JobId}
use Rattle.job_rules.specs.declared.kind.JobKind.{JobKind}
use Rattle.job_rules.specs.declared.phase.Phase.{Phase}
use Rattle.job_rules.specs.declared.phase.Items.{Items}
use Rattle.job_rules.specs.declared.phase.Items.TheVariants.{Files, BarredDrives, Drives}
use Rattle.job_rules.specs.declared.rank.JobView.{JobView}
use Rattle.checkpoints.specs.Saved.{drives_of}
use Rattle.checkpoints.specs.declared.checkpoint.ItemSaved.{ItemSaved}
use Rattle.engine_history.specs.Items.{at_item, come_to, count_out, ended, given_back, handed_out, is_whole, items_from, new_items}
use Rattle.engine_history.specs.declared.entry.EngineEntry.{EngineEntry}
use Rattle.engine_history.specs.declared.entry.EngineEvent.{EngineEvent}
use Rattle.engine_history.specs.declared.entry.EngineEvent.TheVariants as event
use Rattle.engine_history.specs.declared.entry.JobOrder.{JobOrder}
use Rattle.engine_history.specs.declared.entry.JobOrder.TheVariants.{Pause, Resume, Cancel}
use Rattle.engine_history.specs.declared.entry.OrderEffect.{OrderEffect}
use Rattle.engine_history.specs.declared.entry.OrderEffect.TheVariants as effect
use Rattle.engine_history.specs.declared.job.JobState.{JobState}

-- what jobs work on: the cluster, and how many files there are
pub record Field : Type 0 where
  pub shape : Shape
  pub files : ℕ

-- how many items these are, of a job with these bars
abbrev pub count_of : Field → DriveSet → Items → ℕ
count_of field bars Files = field.files
count_of field bars BarredDrives = length (drives_of bars)
count_of field bars Drives = field.shape.nodes * field.shape.drives

abbrev pub items_in : Field → DriveSet → Option Phase → List ItemSaved
items_in field bars None = []
items_in field bars (Some phase) = new_items (count_of field bars (items_of phase))

-- the job is of this number
abbrev pub is_job : JobId → JobState → Bool
is_job job j = j.job.number == job.number

abbrev pub find_job : JobId → List JobState → Option JobState
find_job job jobs = find (is_job job) jobs

abbrev pub is_started : JobId → List JobState → Bool
is_started job jobs = list_any (is_job job) jobs

-- the jobs with a change of the one of this number
abbrev pub at_job : JobId → (JobState → JobState) → List JobState → List JobState
at_job job change jobs = map (λ j. if is_job job j then change j else j) jobs

-- a job that was started after `order` others
abbrev pub new_job : Field → ℕ → JobId → JobKind → ℕ → DriveSet → JobState
new_job field order job kind priority bars = record {
  job = job;
  kind = kind;
  priority = priority;
  order = order;
  bars = bars;
  paused = false;
  cancelled = false;
  finished = false;
  phase = 0;
  earlier = false;
  items = items_in field bars (phase_at kind 0);
}

abbrev pub ordered : JobOrder → JobState → JobState
ordered Pause j = record j { paused = true }
ordered Resume j = record j { paused = false }
ordered Cancel j = record j { cancelled = true }

-- the jobs after an order that did this
abbrev pub after_order : JobId → JobOrder → OrderEffect → List JobState → List JobState
after_order job order effect.Changed jobs = at_job job (ordered order) jobs
after_order job order effect.Same jobs = jobs
after_order job order effect.NotActive jobs = jobs

abbrev pub with_items : (List ItemSaved → List ItemSaved) → JobState → JobState
with_items change j = record j { items = change j.items }

-- the job in its next phase, with the items of that phase
abbrev pub in_next_phase : Field → JobState → JobState
in_next_phase field j =
    record j { phase = j.phase + 1; earlier = j.earlier || not (list_all is_whole j.items); items = items_in field j.bars (phase_at j.kind (j.phase + 1)) }

-- the jobs after an entry, which takes effect as it is written
abbrev pub after_event : Field → EngineEvent → List JobState → List JobState
after_event field (event.Start job kind priority epoch bars) jobs =
    if is_started job jobs then jobs else jobs ++ new_job field (length jobs) job kind priority bars ∷ []
after_event field (event.JobsFull job) jobs = jobs
after_event field (event.Order job order effect) jobs = after_order job order effect jobs
after_event field (event.HandOut job phase first count) jobs = at_job job (with_items (items_from first count handed_out)) jobs
after_event field (event.Progress job item next) jobs = at_job job (with_items (at_item item (come_to next))) jobs
after_event field (event.GiveBack job item next) jobs = at_job job (with_items (at_item item (given_back next))) jobs
after_event field (event.Done job item end) jobs = at_job job (with_items (at_item item (λ i. ended end))) jobs
after_event field (event.PhaseEnd job phase) jobs = at_job job (in_next_phase field) jobs
after_event field (event.Finish job result) jobs = at_job job (λ j. record j { finished = true }) jobs
after_event field event.Restart jobs = jobs
after_event field (event.Work asked steps) jobs = jobs
after_event field (event.Drain steps) jobs = jobs

-- the jobs after these entries, which were these before
abbrev pub jobs_from : Field → List EngineEntry → List JobState → List JobState
jobs_from field [] jobs = jobs
jobs_from field (e ∷ es) jobs = jobs_from field es (after_event field e.event jobs)

-- the jobs that the log leaves, in the order of their starts
abbrev pub jobs_after : Field → List EngineEntry → List JobState
jobs_after field log = jobs_from field log []

-- neither finished nor cancelled, or cancelled with items that are still out
abbrev pub is_active : JobState → Bool
is_active j = not j.finished && (not j.cancelled || nat_lt 0 (count_out j.items))

-- the job as the rules see it: a cancelled one counts as paused by a user
abbrev pub view_of : JobState → JobView
view_of j = record { job = j.job; kind = j.kind; priority = j.priority; started = j.order; by_user = j.paused || j.cancelled; out = count_out j.items }

-- the jobs that are not at their end, as the rules see them
abbrev pub views_of : List JobState → List JobView
views_of jobs = map view_of (filter is_active jobs)
