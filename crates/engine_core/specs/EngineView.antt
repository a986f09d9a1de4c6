-- What contracts see of an engine.
use Rattle.std.specs.Prelude.{◌≡◌, ℕ, zero, suc, List, [], ◌∷◌, Option, Some, None}
use Rattle.domains.specs.Shape.{Shape}
use Rattle.domains.specs.declared.by.By.{By}
use Rattle.job_rules.specs.declared.job.JobId.{JobId}
use Rattle.turn_cell.specs.Notes.{entries_by}
use Rattle.engine_history.specs.Jobs.{Field, after_event}
use Rattle.engine_history.specs.Steps.{IsEngineStep, World, due}
use Rattle.engine_history.specs.declared.entry.EngineEvent.{EngineEvent}
use Rattle.engine_history.specs.declared.job.JobState.{JobState}
use Rattle.job_log.specs.Jobs.{place_of}
use Rattle.job_log.specs.JobLog.{JobLogView, log_of, jobs_of}
use Rattle.job_log.specs.JobLog.{with_entry as log_with}
use Rattle.engine_core.specs.BegunItems.{AreBegun, AreNoneBegun, begun_of, set_at}
use Rattle.engine_core.specs.declared.begun.Begun.{Begun}

-- the log, and who has begun which item, by the order of starts and then by item
pub record EngineView : Type 0 where
  pub log : JobLogView
  pub begun : List (Option Begun)

-- the jobs that the log leaves
abbrev pub jobs_now : EngineView → List JobState
jobs_now e = jobs_of e.log

-- the engine with one more entry
abbrev pub with_entry : EngineView → By → EngineEvent → EngineView
with_entry e by event = record e { log = log_with e.log (record { by = by; event = event }) }

abbrev pub log_with_all : JobLogView → By → List EngineEvent → JobLogView
log_with_all log by [] = log
log_with_all log by (e ∷ es) = log_with_all (log_with log (record { by = by; event = e })) by es

-- the engine with more entries of one operation
abbrev pub with_entries : EngineView → By → List EngineEvent → EngineView
with_entries e by events = record e { log = log_with_all e.log by events }

-- who has begun the item
abbrev pub begun_by : EngineView → JobId → ℕ → Option Begun
begun_by e job item = begun_of (jobs_now e) e.begun job item

-- the engine once the item is begun so, or is not
abbrev pub with_begun : EngineView → JobId → ℕ → Option Begun → EngineView
with_begun e job item b = record e { begun = set_at e.begun (place_of job (jobs_now e)) item b }

-- no other seat than that of this turn has begun the item
abbrev pub NoOtherBegan : EngineView → JobId → ℕ → Type 0
NoOtherBegan e job item = (b : Begun) → begun_by e job item ≡ Some b → b.seat ≡ e.log.seat

-- what holds of every engine: nothing is due, and each begun item is out and its seat's
pub record IsEngine (e : EngineView) : Type 0 where
  pub due_none : due (jobs_now e) ≡ None
  pub begun : AreBegun e.log.field (jobs_now e) e.log.notes e.begun

-- a new engine
pub record IsNewEngine (shape : Shape) (files room : ℕ) (e : EngineView) : Type 0 where
  pub log : e.log ≡ record { field = record { shape = shape; files = files }; room = room; turns = 0; seat = 0; notes = []; spare = e.log.spare }
  pub begun : AreNoneBegun e.begun

-- the entry is legal after the log, for a world with what these jobs work on. An operation's entries stand among the seat's own
abbrev pub IsLegalNow : EngineView → By → EngineEvent → Type 0
IsLegalNow e by event = (world : World) → world.field ≡ e.log.field → IsEngineStep world (log_of e.log) (entries_by e.log.seat e.log.notes) (record { by = by; event = event })

-- each of these entries of one operation is legal after those before it
abbrev pub AreLegalNow : EngineView → By → List EngineEvent → Type 0
AreLegalNow e by [] = Unit {0}
AreLegalNow e by (x ∷ xs) = IsLegalNow e by x × AreLegalNow (with_entry e by x) by xs

abbrev pub then_due : Option EngineEvent → (EngineEvent → List EngineEvent) → List EngineEvent
then_due None more = []
then_due (Some e) more = e ∷ more e

-- what follows at once: its first n entries
abbrev pub due_events : ℕ → Field → List JobState → List EngineEvent
due_events zero field jobs = []
due_events (suc n) field jobs = then_due (due jobs) (λ e. due_events n field (after_event field e jobs))
