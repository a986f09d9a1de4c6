-- What holds of jobs.
use Rattle.std.specs.Prelude.{◌≡◌, ◌≢◌, ℕ, suc, ◌<◌, ◌≤◌, Bool, List, [], ◌∷◌, length, Option, Some, None, if◌then◌else◌, slice_index_or}
use Rattle.std.specs.List.{AllByRecursion, list_all}
use Rattle.domains.specs.Shape.{IsShape}
use Rattle.domains.specs.declared.drive_set.DriveSet.{DriveSet}
use Rattle.checkpoints.specs.Saved.{IsItem, drives_of}
use Rattle.checkpoints.specs.declared.checkpoint.ItemSaved.{ItemSaved}
use Rattle.engine_history.specs.Items.{count_out, has_ended}
use Rattle.job_rules.specs.declared.job.JobId.{JobId}
use Rattle.engine_history.specs.Jobs.{Field, find_job, is_job}
use Rattle.engine_history.specs.declared.entry.EngineEvent.{EngineEvent}
use Rattle.engine_history.specs.declared.entry.EngineEvent.TheVariants as event
use Rattle.engine_history.specs.declared.job.JobState.{JobState}

-- what is kept beside a job is so, and there is room for the items of any phase
pub record IsKept (bars : DriveSet) (barred : ℕ) (items : List ItemSaved) (out : ℕ) (all_ended : Bool) (room : ℕ) : Type 0 where
  pub counted : barred ≡ length (drives_of bars)
  pub few : barred ≤ 200
  pub out_now : out ≡ count_out items
  pub ended_now : all_ended ≡ list_all has_ended items
  pub many : length items ≤ 256
  pub roomy : 256 ≤ room

-- the entry can be carried out: where the phase ends there is a further one, and files are at most as many as an engine has items
abbrev pub IsRoomFor : ℕ → JobState → EngineEvent → Type 0
IsRoomFor files j (event.Start job kind priority epoch bars) = Unit {0}
IsRoomFor files j (event.JobsFull job) = Unit {0}
IsRoomFor files j (event.Order job order effect) = Unit {0}
IsRoomFor files j (event.HandOut job phase first count) = Unit {0}
IsRoomFor files j (event.Progress job item next) = Unit {0}
IsRoomFor files j (event.GiveBack job item next) = Unit {0}
IsRoomFor files j (event.Done job item end) = Unit {0}
IsRoomFor files j (event.PhaseEnd job phase) = (files ≤ 256) × (j.phase ≤ 2)
IsRoomFor files j (event.Finish job result) = Unit {0}
IsRoomFor files j event.Restart = Unit {0}
IsRoomFor files j (event.Work asked steps) = Unit {0}
IsRoomFor files j (event.Drain steps) = Unit {0}

-- what jobs work on is within its limits: an engine has 1 to 256 files
pub record IsField (field : Field) : Type 0 where
  pub shape : IsShape field.shape
  pub some : 1 ≤ field.files
  pub files : field.files ≤ 256

-- the job has a number, a priority, few bars and positions that a checkpoint can spell
pub record IsSound (j : JobState) : Type 0 where
  pub number : j.job.number < 65536
  pub some_priority : 1 ≤ j.priority
  pub priority : j.priority ≤ 10
  pub phase : j.phase ≤ 3
  pub bars : length (drives_of j.bars) ≤ 200
  pub items : AllByRecursion IsItem j.items

abbrev pub AreSound : List JobState → Type 0
AreSound jobs = AllByRecursion IsSound jobs

-- no job stands twice
abbrev pub AreApart : List JobState → Type 0
AreApart [] = Unit {0}
AreApart (j ∷ js) = AllByRecursion (λ (k : JobState). j.job.number ≢ k.job.number) js × AreApart js

-- the jobs were started one after the other, the first after n others
abbrev pub AreOrderedFrom : ℕ → List JobState → Type 0
AreOrderedFrom n [] = Unit {0}
AreOrderedFrom n (j ∷ js) = (j.order ≡ n) × AreOrderedFrom (suc n) js

abbrev pub one_later : Option ℕ → Option ℕ
one_later None = None
one_later (Some n) = Some (suc n)

-- the place of the job among these
abbrev pub place_of : JobId → List JobState → Option ℕ
place_of job [] = None
place_of job (j ∷ js) = if is_job job j then Some 0 else one_later (place_of job js)

-- the job stands at this place; where it has none, it is not one of these
abbrev pub IsFoundAt : JobId → List JobState → Option ℕ → Type 0
IsFoundAt job jobs None = find_job job jobs ≡ None
IsFoundAt job jobs (Some at) = (d : JobState) → find_job job jobs ≡ Some (slice_index_or jobs at d)
