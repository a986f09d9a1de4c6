-- What contracts see of an engine's log.
use Rattle.std.specs.Prelude.{◌≡◌, ℕ, ◌-◌, ◌<◌, ◌≤◌, ◌^◌, min, List, [], ◌∷◌, ◌++◌, length, IfSome}
use Rattle.domains.specs.Shape.{Shape}
use Rattle.turn_cell.specs.declared.chronicle.Note.{Note}
use Rattle.engine_history.specs.Begun.{entries_of}
use Rattle.engine_history.specs.Jobs.{Field, find_job, jobs_after}
use Rattle.engine_history.specs.declared.entry.EngineEntry.{EngineEntry}
use Rattle.engine_history.specs.declared.entry.EngineEvent.{EngineEvent}
use Rattle.engine_history.specs.declared.entry.EngineEvent.TheVariants as event
use Rattle.engine_history.specs.declared.job.JobState.{JobState}
use Rattle.job_log.specs.Jobs.{AreSound, IsField}
use Rattle.job_log.specs.declared.entry_stamp.EntryStamp.{EntryStamp}

-- what jobs work on, the most entries of the log, the number of turns passed, the seat whose turn it is, the entries with their
-- turns and seats, and how many more there is memory for
pub record JobLogView : Type 0 where
  pub field : Field
  pub room : ℕ
  pub turns : ℕ
  pub seat : ℕ
  pub notes : List (Note EngineEntry)
  pub spare : ℕ

abbrev pub log_of : JobLogView → List EngineEntry
log_of l = entries_of l.notes

-- the jobs that the log leaves
abbrev pub jobs_of : JobLogView → List JobState
jobs_of l = jobs_after l.field (log_of l)

-- an entry as this turn and seat make it
abbrev pub note_of : JobLogView → EngineEntry → Note EngineEntry
note_of l entry = record { turn = l.turns; seat = l.seat; entry = entry }

-- the log with one more entry
abbrev pub with_entry : JobLogView → EngineEntry → JobLogView
with_entry l entry = record l { notes = l.notes ++ note_of l entry ∷ []; spare = l.spare - 1 }

-- each entry with its stamp
abbrev pub stamped : List EntryStamp → List EngineEntry → List (Note EngineEntry)
stamped [] es = []
stamped (s ∷ ss) [] = []
stamped (s ∷ ss) (e ∷ es) = record { turn = s.turn; seat = s.seat; entry = e } ∷ stamped ss es

abbrev pub view_of : Shape → ℕ → ℕ → ℕ → ℕ → List EntryStamp → List EngineEntry → ℕ → ℕ → ℕ → JobLogView
view_of shape files room turns seat stamps entries count entry_room stamp_room = record {
  field = record { shape = shape; files = files };
  room = room;
  turns = turns;
  seat = seat;
  notes = stamped stamps entries;
  spare = min (min entry_room stamp_room) room - count;
}

-- a log that may be appended to: its jobs can be spelled
pub record IsJobLog (l : JobLogView) : Type 0 where
  pub field : IsField l.field
  pub sound : AreSound (jobs_of l)
  pub few : length (jobs_of l) ≤ 64

-- each entry has its stamp, the jobs are those that the log leaves, and there is room for all that may be started
pub record IsKeptLog (shape : Shape) (files room : ℕ) (stamps : List EntryStamp) (entries : List EngineEntry) (jobs : List JobState) (job_room : ℕ) : Type 0 where
  pub stamped_each : length stamps ≡ length entries
  pub within : length entries ≤ room
  pub small : room < 2 ^ 32
  pub jobs_now : jobs ≡ jobs_after (record { shape = shape; files = files }) entries
  pub field : IsField (record { shape = shape; files = files })
  pub sound : AreSound jobs
  pub few : length jobs ≤ 64
  pub roomy : 64 ≤ job_room

-- an entry other than a start, with a position that a checkpoint can spell; a phase ends where there may be a further one
abbrev pub Fits : List JobState → EngineEvent → Type 0
Fits jobs (event.Start job kind priority epoch bars) = ⊥
Fits jobs (event.JobsFull job) = Unit {0}
Fits jobs (event.Order job order effect) = Unit {0}
Fits jobs (event.HandOut job phase first count) = Unit {0}
Fits jobs (event.Progress job item next) = next ≤ 257
Fits jobs (event.GiveBack job item next) = next ≤ 257
Fits jobs (event.Done job item end) = Unit {0}
Fits jobs (event.PhaseEnd job phase) = IfSome (find_job job jobs) (λ j. j.phase ≤ 2)
Fits jobs (event.Finish job result) = Unit {0}
Fits jobs event.Restart = Unit {0}
Fits jobs (event.Work asked steps) = Unit {0}
Fits jobs (event.Drain steps) = Unit {0}
