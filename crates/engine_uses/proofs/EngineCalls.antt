-- What calls make of an engine, in the turn of a seat.
use Rattle.std.proofs.Common.{◌≡◌, ℕ, ◌+◌, ◌<◌, List, [], ◌∷◌, length, Option, Result, Ok, Err, None, sym, ap, subst, refl}
use Rattle.std.proofs.lemmas.List.Elements.{All-cons, All-nil}
use Rattle.std.specs.Prelude.{IfOk, IsErrAnd, IsErrOf, OnErr, OnOk, ◌↔◌}
use Rattle.std.specs.List.{AllByRecursion}
use Rattle.domains.specs.Shape.{Shape}
use Rattle.domains.specs.declared.by.By.{By}
use Rattle.domains.specs.declared.drive_set.DriveSet.{DriveSet}
use Rattle.job_rules.specs.declared.job.JobId.{JobId}
use Rattle.job_rules.specs.declared.kind.JobKind.{JobKind}
use Rattle.turn_cell.specs.Histories.{IsFresh}
use Rattle.turn_cell.specs.Notes.{AreZeros}
use Rattle.turn_cell.proofs.HistoryLemmas.{Changed-trans}
use Rattle.engine_history.specs.Jobs.{after_event}
use Rattle.engine_history.specs.declared.end.End.{End}
use Rattle.engine_history.specs.declared.entry.EngineEvent.TheVariants as event
use Rattle.job_log.specs.JobLog.{JobLogView}
use Rattle.job_log.specs.declared.job_log.Grow.{Grow}
use Rattle.job_log.specs.declared.job_log.Grow.TheVariants.{LogFull}
use Rattle.engine_core.specs.BegunItems.{count_for, tally_of}
use Rattle.engine_core.specs.EngineTurns.{ChangesEngine}
use Rattle.engine_core.specs.EngineView.{EngineView, IsLegalNow, IsNewEngine, NoOtherBegan, due_events, jobs_now, with_entry}
use Rattle.engine_core.specs.declared.begun.Begun.{Begun}
use Rattle.engine_core.specs.declared.engine.StartRefusal.{StartRefusal}
use Rattle.engine_core.specs.declared.engine.StartRefusal.TheVariants.{JobsFull, NoMemory}
use Rattle.engine_core.specs.declared.hand_outs.Idle.{Idle}
use Rattle.engine_core.specs.declared.work.Task.{Task}
use Rattle.engine_uses.specs.ItemTurns.{EndsIn, with_ended}
use Rattle.engine_core.proofs.EngineTurns.{changes_done, changes_entry, changes_none, changes_spare, fixed_in, notes_in, tally_in, turns_in}

pub changes_same : (old new : EngineView) → new ≡ old → ChangesEngine old.log.seat old new
changes_same old new same = subst (ChangesEngine old.log.seat old) (sym same) (changes_none old.log.seat old)

pub changes_reserve : (old new : EngineView) → new ≡ record old { log = record old.log { spare = new.log.spare } } → ChangesEngine old.log.seat old new
changes_reserve old new same = subst (ChangesEngine old.log.seat old) (sym same) (changes_spare old.log.seat old new.log.spare)

seat_kept : (old new : EngineView) → new ≡ record old { log = record old.log { spare = new.log.spare } } → new.log.seat ≡ old.log.seat
seat_kept old new same = ap (λ (e : EngineView). e.log.seat) same

pub changes_after_reserve : (old new now : EngineView) → new ≡ record old { log = record old.log { spare = new.log.spare } } → ChangesEngine new.log.seat new now → ChangesEngine old.log.seat old now
changes_after_reserve old new now same h =
    Changed-trans turns_in notes_in tally_in fixed_in old.log.seat old new now (changes_reserve old new same) (subst (λ k. ChangesEngine k new now) (seat_kept old new same) h)

pub none_else_kept : (old new : EngineView) (job : JobId) (item : ℕ) → new ≡ record old { log = record old.log { spare = new.log.spare } } → NoOtherBegan old job item → NoOtherBegan new job item
none_else_kept old new job item same own = subst (λ (e : EngineView). NoOtherBegan e job item) (sym same) own

pub changes_ended : (old new : EngineView) (by : By) (job : JobId) (item : ℕ) (end : End) → NoOtherBegan old job item → new ≡ with_ended old by job item end → ChangesEngine old.log.seat old new
changes_ended old new by job item end own ended =
    subst (ChangesEngine old.log.seat old) (sym ended)
    (changes_done old by job item (event.Done job item end ∷ due_events 3 old.log.field (after_event old.log.field (event.Done job item end) (jobs_now old))) own)

-- the item has ended in the log
pub ends_ok : (old reserved new : EngineView) (by : By) (job : JobId) (item : ℕ) (end : End) (x : Unit {0}) → reserved ≡ record old { log = record old.log { spare = reserved.log.spare } }
    → ((let out : Result (Unit {0}) Grow = Ok x in IsErrOf out LogFull) ↔ (old.log.room < length old.log.notes + 4)) → new ≡ with_ended reserved by job item end → EndsIn old new by job item end (Ok tt)
ends_ok old reserved new by job item end x same full ended =
    record { spare = reserved.log.spare; ok = subst (λ (e : EngineView). new ≡ with_ended e by job item end) same ended; refused = tt; log_full = full }

-- there was no room
pub ends_refused : (old reserved : EngineView) (by : By) (job : JobId) (item : ℕ) (end : End) (r : Result (Unit {0}) Grow) (refusal : Grow) → IsErrAnd r (λ told. told ≡ refusal)
    → reserved ≡ record old { log = record old.log { spare = reserved.log.spare } } → ((let out : Result (Unit {0}) Grow = Err refusal in IsErrOf out LogFull) ↔ (old.log.room < length old.log.notes + 4))
    → EndsIn old reserved by job item end r
ends_refused old reserved by job item end (Ok x) refusal told same full = absurd told
ends_refused old reserved by job item end (Err f) refusal told same full = record {
  spare = reserved.log.spare;
  ok = tt;
  refused = same;
  log_full = subst (λ (g : Grow). (let out : Result (Unit {0}) Grow = Err g in IsErrOf out LogFull) ↔ (old.log.room < length old.log.notes + 4)) (sym told) full;
}

pub changes_start : (r : Result (Unit {0}) StartRefusal) (old new : EngineView) (by : By) (job : JobId) (kind : JobKind) (priority epoch : ℕ) (bars : DriveSet)
    → OnOk r (new ≡ with_entry old by (event.Start job kind priority epoch bars)) → (r ≡ Err JobsFull → (new ≡ with_entry old by (event.JobsFull job)) × IsLegalNow old by (event.JobsFull job)) → (r ≡ Err NoMemory → new ≡ old)
    → ChangesEngine old.log.seat old new
changes_start (Ok x) old new by job kind priority epoch bars ok full kept = subst (ChangesEngine old.log.seat old) (sym ok) (changes_entry old by (event.Start job kind priority epoch bars))
changes_start (Err JobsFull) old new by job kind priority epoch bars ok full kept = subst (ChangesEngine old.log.seat old) (sym (full refl).0) (changes_entry old by (event.JobsFull job))
changes_start (Err NoMemory) old new by job kind priority epoch bars ok full kept = changes_same old new (kept refl)

pub changes_hand_out : (r : Result Task Idle) (old new : EngineView) (by : By) → IfOk r (λ task. new ≡ with_entry old by (event.HandOut task.job task.phase task.first task.count)) → OnErr r (new ≡ old) → ChangesEngine old.log.seat old new
changes_hand_out (Ok task) old new by ok kept = subst (ChangesEngine old.log.seat old) (sym ok) (changes_entry old by (event.HandOut task.job task.phase task.first task.count))
changes_hand_out (Err idle) old new by ok kept = changes_same old new kept

-- a new engine has no turn, no note and tallies of zeros
pub new_is_fresh : (shape : Shape) (files room : ℕ) (e : EngineView) → IsNewEngine shape files room e → IsFresh turns_in notes_in tally_in e
new_is_fresh shape files room e new = record {
  turns = ap (λ (l : JobLogView). l.turns) new.log;
  notes = ap (λ (l : JobLogView). l.notes) new.log;
  tallies = λ number. zeros number e.begun new.begun.none;
}
  where
    zeros : (k : ℕ) (places : List (Option Begun)) → AllByRecursion (λ (b : Option Begun). b ≡ None) places → AreZeros (tally_of places k)
    zeros k [] all = All-nil (λ (n : ℕ). n ≡ 0)
    zeros k (b ∷ bs) all = All-cons (λ (n : ℕ). n ≡ 0) (count_for k b) (tally_of bs k) (ap (count_for k) all.0) (zeros k bs all.1)
