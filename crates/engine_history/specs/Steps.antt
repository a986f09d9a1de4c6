-- Which entries are legal after a log.
use Rattle.std.specs.Prelude.{◌≡◌, ℕ, zero, suc, ◌+◌, ◌<◌, ◌≤◌, ◌==◌, Bool, true, false, not, ◌&&◌, ◌||◌, if◌then◌else◌, List, [], ◌∷◌, ◌++◌, length, map, take, drop, count_by, Option, Some, None}
use Rattle.std.specs.List.{filter, find, list_all, list_any, position_or_len}
use Rattle.domains.specs.Drive.{Drive, IsDrive}
use Rattle.domains.specs.DriveSet.{has}
use Rattle.domains.specs.declared.by.By.{By}
use Rattle.domains.specs.declared.drive_set.DriveSet.{DriveSet}
use Rattle.job_rules.specs.Kinds.{phase_at}
use Rattle.job_rules.specs.Rank.{in_rank}
use Rattle.job_rules.specs.Why.{why}
use Rattle.job_rules.specs.declared.job.JobId.{JobId}
use Rattle.job_rules.specs.declared.kind.JobKind.{JobKind}
use Rattle.job_rules.specs.declared.kind.JobKind.TheVariants as kind
use Rattle.job_rules.specs.declared.phase.Phase.{Phase}
use Rattle.job_rules.specs.declared.rank.JobView.{JobView}
use Rattle.job_rules.specs.declared.waits.Waits.{Waits}
use Rattle.checkpoints.specs.declared.checkpoint.ItemSaved.{ItemSaved}
use Rattle.engine_history.specs.Items.{has_ended, is_out, is_to_do}
use Rattle.engine_history.specs.Jobs.{Field, find_job, is_started, jobs_after, views_of}
use Rattle.engine_history.specs.declared.entry.EngineEntry.{EngineEntry}
use Rattle.engine_history.specs.declared.entry.EngineEvent.{EngineEvent}
use Rattle.engine_history.specs.declared.entry.EngineEvent.TheVariants as event
use Rattle.engine_history.specs.declared.entry.Finished.TheVariants as finished
use Rattle.engine_history.specs.declared.entry.JobOrder.{JobOrder}
use Rattle.engine_history.specs.declared.entry.JobOrder.TheVariants.{Pause, Resume, Cancel}
use Rattle.engine_history.specs.declared.entry.OrderEffect.{OrderEffect}
use Rattle.engine_history.specs.declared.entry.OrderEffect.TheVariants as effect
use Rattle.engine_history.specs.declared.job.JobState.{JobState}

-- what an entry may depend on beside the log: what jobs work on, how many entries the board has, and the drives that are gone
-- after each number of them
pub record World : Type 0 where
  pub field : Field
  pub epochs : ℕ
  pub gone : ℕ → Drive → Bool

-- ---- what is due

abbrev pub end_of_phase : JobState → Option Phase → EngineEvent
end_of_phase j (Some phase) = event.PhaseEnd j.job j.phase
end_of_phase j None = event.Finish j.job (if j.earlier then finished.Partial else finished.Done)

-- what follows at once where no item of the phase is left: the end of the phase, and behind the last phase the finish
abbrev pub due_of : JobState → Option EngineEvent
due_of j =
    if (j.finished || j.cancelled) || not (list_all has_ended j.items) then None else Some (end_of_phase j (phase_at j.kind j.phase))

abbrev pub or_due : Option EngineEvent → Option EngineEvent → Option EngineEvent
or_due None later = later
or_due (Some due) later = Some due

-- the first event that is due of these jobs
abbrev pub due : List JobState → Option EngineEvent
due [] = None
due (j ∷ js) = or_due (due_of j) (due js)

-- ---- hand-outs

abbrev pub waits_not : Option Waits → Bool
waits_not None = true
waits_not (Some waits) = false

abbrev pub has_to_do : Option JobState → Bool
has_to_do None = false
has_to_do (Some j) = list_any is_to_do j.items

-- the job does not wait, and has an item to do
abbrev pub is_served : List JobState → JobView → Bool
is_served jobs v = waits_not (why (views_of jobs) v.job) && has_to_do (find_job v.job jobs)

-- the first job in rank that does not wait and has an item to do
abbrev pub next_job : List JobState → Option JobView
next_job jobs = find (is_served jobs) (in_rank (views_of jobs))

-- `count` items from the first one to do on, all of them to do, of the job's phase
pub record IsRun (j : JobState) (phase first count : ℕ) : Type 0 where
  pub phase_now : phase ≡ j.phase
  pub first_one : first ≡ position_or_len is_to_do j.items
  pub some : 1 ≤ count
  pub few : count ≤ 8
  pub within : first + count ≤ length j.items
  pub all : list_all is_to_do (take count (drop first j.items)) ≡ true

abbrev pub IsRunOf : Option JobState → ℕ → ℕ → ℕ → Type 0
IsRunOf None phase first count = ⊥
IsRunOf (Some j) phase first count = IsRun j phase first count

abbrev pub IsNext : Option JobView → JobId → Type 0
IsNext None job = ⊥
IsNext (Some v) job = v.job ≡ job

pub record IsHandOut (jobs : List JobState) (job : JobId) (phase first count : ℕ) : Type 0 where
  pub served : IsNext (next_job jobs) job
  pub run : IsRunOf (find_job job jobs) phase first count

-- ---- items and orders

abbrev pub out_among : ℕ → List ItemSaved → Bool
out_among item [] = false
out_among zero (i ∷ is) = is_out i
out_among (suc item) (i ∷ is) = out_among item is

abbrev pub out_of : Option JobState → ℕ → Bool
out_of None item = false
out_of (Some j) item = out_among item j.items

-- the item of the job is out
abbrev pub is_item_out : List JobState → JobId → ℕ → Bool
is_item_out jobs job item = out_of (find_job job jobs) item

abbrev pub effect_on : JobOrder → JobState → OrderEffect
effect_on Pause j = if j.paused then effect.Same else effect.Changed
effect_on Resume j = if j.paused then effect.Changed else effect.Same
effect_on Cancel j = effect.Changed

-- what an order does: nothing to a job that is not started, finished or cancelled
abbrev pub effect_of : JobOrder → Option JobState → OrderEffect
effect_of order None = effect.NotActive
effect_of order (Some j) = if j.finished || j.cancelled then effect.NotActive else effect_on order j

-- ---- work and drain

abbrev pub same_by : By → By → Bool
same_by a b = (a.actor == b.actor) && (a.call == b.call)

-- the events of one operation among these entries
abbrev pub events_by : By → List EngineEntry → List EngineEvent
events_by by entries = map (λ (e : EngineEntry). e.event) (filter (λ (e : EngineEntry). same_by e.by by) entries)

-- a step of an item: its progress, or its end
abbrev pub is_step : EngineEvent → Bool
is_step (event.Start job kind priority epoch bars) = false
is_step (event.JobsFull job) = false
is_step (event.Order job order effect) = false
is_step (event.HandOut job phase first count) = false
is_step (event.Progress job item next) = true
is_step (event.GiveBack job item next) = false
is_step (event.Done job item end) = true
is_step (event.PhaseEnd job phase) = false
is_step (event.Finish job result) = false
is_step event.Restart = false
is_step (event.Work asked steps) = false
is_step (event.Drain steps) = false

-- the event ends the item, or gives it back
abbrev pub leaves : JobId → ℕ → EngineEvent → Bool
leaves job item (event.Start other kind priority epoch bars) = false
leaves job item (event.JobsFull other) = false
leaves job item (event.Order other order effect) = false
leaves job item (event.HandOut other phase first count) = false
leaves job item (event.Progress other place next) = false
leaves job item (event.GiveBack other place next) = (other.number == job.number) && (place == item)
leaves job item (event.Done other place end) = (other.number == job.number) && (place == item)
leaves job item (event.PhaseEnd other phase) = false
leaves job item (event.Finish other result) = false
leaves job item event.Restart = false
leaves job item (event.Work asked steps) = false
leaves job item (event.Drain steps) = false

-- each of `count` items from the first on is ended or given back among these events
abbrev pub all_left : JobId → ℕ → ℕ → List EngineEvent → Bool
all_left job first zero later = true
all_left job first (suc count) later = list_any (leaves job (first + count)) later && all_left job first count later

abbrev pub left_behind : EngineEvent → List EngineEvent → Bool
left_behind (event.Start job kind priority epoch bars) later = true
left_behind (event.JobsFull job) later = true
left_behind (event.Order job order effect) later = true
left_behind (event.HandOut job phase first count) later = all_left job first count later
left_behind (event.Progress job item next) later = true
left_behind (event.GiveBack job item next) later = true
left_behind (event.Done job item end) later = true
left_behind (event.PhaseEnd job phase) later = true
left_behind (event.Finish job result) later = true
left_behind event.Restart later = true
left_behind (event.Work asked steps) later = true
left_behind (event.Drain steps) later = true

-- each item that these events hand out is ended or given back behind that
abbrev pub none_kept : List EngineEvent → Bool
none_kept [] = true
none_kept (e ∷ es) = left_behind e es && none_kept es

-- the operation did `steps` steps and keeps no item; if it is idle, no job could be served
pub record IsWorked (jobs : List JobState) (events : List EngineEvent) (steps : ℕ) : Type 0 where
  pub counted : steps ≡ count_by is_step events
  pub left : none_kept events ≡ true

-- ---- steps

-- the job's bars: the drives that are gone for a FlexProtect, else none
abbrev pub bars_of : JobKind → (Drive → Bool) → Drive → Bool
bars_of kind.FlexProtect gone d = gone d
bars_of kind.AutoBalance gone d = false
bars_of kind.SetProtectPlus gone d = false
bars_of kind.Collect gone d = false
bars_of kind.MultiScan gone d = false
bars_of kind.Upgrade gone d = false
bars_of kind.IntegrityScan gone d = false
bars_of kind.MediaScan gone d = false
bars_of kind.SmartPools gone d = false
bars_of kind.SyncCopy gone d = false

pub record IsStart (world : World) (jobs : List JobState) (job : JobId) (kind : JobKind) (priority epoch : ℕ) (bars : DriveSet) : Type 0 where
  pub fresh : is_started job jobs ≡ false
  pub room : length jobs < 64
  pub some_priority : 1 ≤ priority
  pub most_priority : priority ≤ 10
  pub known : epoch ≤ world.epochs
  pub barred : (d : Drive) → IsDrive d → has bars d ≡ bars_of kind (world.gone epoch) d

-- the entry is legal where nothing is due. `own` are the entries among which those of its operation stand
abbrev pub IsFreeStep : World → List JobState → List EngineEntry → By → EngineEvent → Type 0
IsFreeStep world jobs own by (event.Start job kind priority epoch bars) = IsStart world jobs job kind priority epoch bars
IsFreeStep world jobs own by (event.JobsFull job) = (is_started job jobs ≡ false) × (64 ≤ length jobs)
IsFreeStep world jobs own by (event.Order job order effect) = effect ≡ effect_of order (find_job job jobs)
IsFreeStep world jobs own by (event.HandOut job phase first count) = IsHandOut jobs job phase first count
IsFreeStep world jobs own by (event.Progress job item next) = (is_item_out jobs job item ≡ true) × (next ≤ 257)
IsFreeStep world jobs own by (event.GiveBack job item next) = (is_item_out jobs job item ≡ true) × (next ≤ 257)
IsFreeStep world jobs own by (event.Done job item end) = is_item_out jobs job item ≡ true
IsFreeStep world jobs own by (event.PhaseEnd job phase) = ⊥
IsFreeStep world jobs own by (event.Finish job result) = ⊥
IsFreeStep world jobs own by event.Restart = Unit {0}
IsFreeStep world jobs own by (event.Work asked steps) =
    (1 ≤ asked) × (steps ≤ asked) × IsWorked jobs (events_by by own) steps × (steps < asked → next_job jobs ≡ None)
IsFreeStep world jobs own by (event.Drain steps) = IsWorked jobs (events_by by own) steps × (next_job jobs ≡ None)

-- the last entry was made by this actor's operation
abbrev pub MadeBy : By → List EngineEntry → Type 0
MadeBy by [] = ⊥
MadeBy by (e ∷ []) = e.by ≡ by
MadeBy by (e ∷ f ∷ es) = MadeBy by (f ∷ es)

abbrev pub IsStepWhere : World → List JobState → List EngineEntry → List EngineEntry → EngineEntry → Option EngineEvent → Type 0
IsStepWhere world jobs log own e None = IsFreeStep world jobs own e.by e.event
IsStepWhere world jobs log own e (Some due) = (e.event ≡ due) × MadeBy e.by log

-- the entry is legal after the log: what is due, at once and by the same operation, or what its row says
abbrev pub IsEngineStep : World → List EngineEntry → List EngineEntry → EngineEntry → Type 0
IsEngineStep world log own e =
    let jobs = jobs_after world.field log in
    IsStepWhere world jobs log own e (due jobs)

-- each entry is legal after those before it
abbrev pub AreLegalFrom : World → List EngineEntry → List EngineEntry → Type 0
AreLegalFrom world log [] = Unit {0}
AreLegalFrom world log (e ∷ es) = IsEngineStep world log log e × AreLegalFrom world (log ++ e ∷ []) es

-- the log is legal, and nothing is due at its end
pub record IsLegalEngineLog (world : World) (log : List EngineEntry) : Type 0 where
  pub legal : AreLegalFrom world [] log
  pub whole : due (jobs_after world.field log) ≡ None
