-- What a checkpoint says of jobs.
use Rattle.std.specs.Prelude.{◌≡◌, ℕ, suc, ◌||◌, nat_lt, ◌==◌, if◌then◌else◌, List, [], ◌∷◌, length, Option, Some, None, Result, Ok, Err}
use Rattle.job_rules.specs.declared.job.JobId.{JobId}
use Rattle.checkpoints.specs.CheckpointFields.{Answers, all_of}
use Rattle.checkpoints.specs.Saved.{checkpoint_bytes}
use Rattle.checkpoints.specs.declared.checkpoint.Checkpoint.{Checkpoint}
use Rattle.checkpoints.specs.declared.checkpoint.JobSaved.{JobSaved}
use Rattle.checkpoints.specs.declared.fault.CheckpointFault.TheVariants as fault
use Rattle.engine_history.specs.Jobs.{is_active}
use Rattle.engine_history.specs.declared.job.JobState.{JobState}
use Rattle.job_log.specs.Jobs.{one_later}
use Rattle.engine_core.specs.declared.saved.RestartRefusal.{RestartRefusal}
use Rattle.engine_core.specs.declared.saved.RestartRefusal.TheVariants.{Bad, Other, NoMemory}

-- a cancelled job counts as paused
abbrev pub saved_of : JobState → JobSaved
saved_of j = record {
  job = j.job;
  kind = j.kind;
  priority = j.priority;
  order = j.order;
  paused = j.paused || j.cancelled;
  phase = j.phase;
  bars = j.bars;
  earlier = j.earlier;
  items = j.items;
}

-- the job stands behind those with lower numbers
abbrev pub put : JobSaved → List JobSaved → List JobSaved
put s [] = s ∷ []
put s (t ∷ ts) = if nat_lt t.job.number s.job.number then t ∷ put s ts else s ∷ t ∷ ts

-- how many jobs at the front have lower numbers
abbrev pub before_in : JobId → List JobSaved → ℕ
before_in job [] = 0
before_in job (t ∷ ts) = if nat_lt t.job.number job.number then suc (before_in job ts) else 0

-- the active ones of these jobs put among those that are saved
abbrev pub saved_from : List JobState → List JobSaved → List JobSaved
saved_from [] saved = saved
saved_from (j ∷ js) saved = saved_from js (if is_active j then put (saved_of j) saved else saved)

-- how many were started, and those that are active by their numbers
abbrev pub checkpoint_of : List JobState → Checkpoint
checkpoint_of jobs = record { started = length jobs; jobs = saved_from jobs [] }

-- the first place at which two lists differ
abbrev pub differs_at : List ℕ → List ℕ → Option ℕ
differs_at [] [] = None
differs_at [] (y ∷ ys) = Some 0
differs_at (x ∷ xs) [] = Some 0
differs_at (x ∷ xs) (y ∷ ys) = if x == y then one_later (differs_at xs ys) else Some 0

-- the bytes are taken if they spell the state; else they are no checkpoint, or spell another state, from this byte on
abbrev pub IsTaken : List ℕ → Checkpoint → Result (Unit {0}) RestartRefusal → Type 0
IsTaken bytes own (Ok done) = bytes ≡ checkpoint_bytes own
IsTaken bytes own (Err (Bad bad)) = Answers bytes (Err (fault.Bad bad)) (all_of bytes)
IsTaken bytes own (Err (Other at)) = ((c : Checkpoint) × (bytes ≡ checkpoint_bytes c)) × (differs_at bytes (checkpoint_bytes own) ≡ Some at)
IsTaken bytes own (Err NoMemory) = Unit {0}
