-- What a turn that begins or ends an item found and left.
use Rattle.std.specs.Prelude.{◌≡◌, ℕ, ◌+◌, ◌<◌, ◌↔◌, ◌∷◌, IsErrOf, None, OnErr, OnOk, Option, Result, length}
use Rattle.domains.specs.declared.by.By.{By}
use Rattle.job_rules.specs.declared.job.JobId.{JobId}
use Rattle.turn_cell.specs.Seats.{SeatView}
use Rattle.engine_history.specs.Jobs.{after_event}
use Rattle.engine_history.specs.declared.end.End.{End}
use Rattle.engine_history.specs.declared.entry.EngineEvent.TheVariants as event
use Rattle.job_log.specs.declared.job_log.Grow.{Grow}
use Rattle.job_log.specs.declared.job_log.Grow.TheVariants.{LogFull}
use Rattle.engine_core.specs.EngineTurns.{FollowsEngine, IsUntouched}
use Rattle.engine_core.specs.EngineView.{EngineView, due_events, jobs_now, with_begun, with_entries}
use Rattle.engine_core.specs.Items.{after_begin}
use Rattle.engine_core.specs.Tasks.{work_of}
use Rattle.engine_core.specs.declared.work.Task.{Task}
use Rattle.engine_core.specs.declared.work.Work.{Work}

-- the engine in a turn of the seat
abbrev pub in_turn_of : ℕ → EngineView → EngineView
in_turn_of seat e = record e { log = record e.log { seat = seat } }

-- the engine once the turn has passed
abbrev pub passed : EngineView → EngineView
passed e = record e { log = record e.log { turns = e.log.turns + 1 } }

abbrev pub with_spare : EngineView → ℕ → EngineView
with_spare e spare = record e { log = record e.log { spare = spare } }

-- the engine once the item has ended: nobody has begun it, and what follows at once stands behind the end
abbrev pub with_ended : EngineView → By → JobId → ℕ → End → EngineView
with_ended e by job item end =
    with_entries (with_begun e job item None) by (event.Done job item end ∷ due_events 3 e.log.field (after_event e.log.field (event.Done job item end) (jobs_now e)))

-- the turn found this engine, and began the item if it was out in the task's phase and no seat had begun it
pub record BeginsItem (before after : SeatView EngineView) (task : Task) (item : ℕ) (result : Option Work) : Type 0 where
  pub found : EngineView
  pub follows : FollowsEngine before.number before.last found
  pub work : result ≡ work_of found task item
  pub leaves : after.last ≡ passed (after_begin (in_turn_of before.number found) task.job item result)

-- the item has ended in the log, or there is no room for what its end may append
pub record EndsIn (old new : EngineView) (by : By) (job : JobId) (item : ℕ) (end : End) (result : Result (Unit {0}) Grow) : Type 0 where
  pub spare : ℕ
  pub ok : OnOk result (new ≡ with_ended (with_spare old spare) by job item end)
  pub refused : OnErr result (new ≡ with_spare old spare)
  pub log_full : IsErrOf result LogFull ↔ (old.log.room < length old.log.notes + 4)

-- the turn found this engine, in which no note since the seat's last turn had touched the item, and ended the item
pub record EndsItem (before after : SeatView EngineView) (by : By) (job : JobId) (item : ℕ) (end : End) (result : Result (Unit {0}) Grow) : Type 0 where
  pub found : EngineView
  pub follows : FollowsEngine before.number before.last found
  pub untouched : IsUntouched before.last found job item
  pub engine : EngineView
  pub ended : EndsIn (in_turn_of before.number found) engine by job item end result
  pub leaves : after.last ≡ passed engine
