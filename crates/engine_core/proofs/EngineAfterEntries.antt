-- What every engine keeps, with one more entry.
use Rattle.std.proofs.Common.{◌≡◌, ℕ, zero, suc, Bool, true, false, cond, List, [], ◌∷◌, ◌++◌, length, Option, Some, None, Result, Ok, Err, refl, sym, ap, ◌∙◌, subst, nat_eq}
use Rattle.std.specs.Prelude.{OnErr, OnOk, slice_index_or, slice_set}
use Rattle.domains.specs.declared.by.By.{By}
use Rattle.domains.specs.declared.drive_set.DriveSet.{DriveSet}
use Rattle.job_rules.specs.declared.job.JobId.{JobId}
use Rattle.job_rules.specs.declared.kind.JobKind.{JobKind}
use Rattle.engine_history.specs.Begun.{touches}
use Rattle.engine_history.specs.Jobs.{Field, after_event, at_job, find_job, is_started, new_job, ordered}
use Rattle.engine_history.specs.Steps.{IsRun, due, is_item_out, out_of}
use Rattle.engine_history.specs.declared.end.End.{End}
use Rattle.engine_history.specs.declared.entry.EngineEntry.{EngineEntry}
use Rattle.engine_history.specs.declared.entry.EngineEvent.{EngineEvent}
use Rattle.engine_history.specs.declared.entry.EngineEvent.TheVariants as event
use Rattle.engine_history.specs.declared.entry.JobOrder.{JobOrder}
use Rattle.engine_history.specs.declared.entry.OrderEffect.{OrderEffect}
use Rattle.engine_history.specs.declared.entry.OrderEffect.TheVariants as effect
use Rattle.engine_history.specs.declared.job.JobState.{JobState}
use Rattle.job_log.specs.Changes.{changed}
use Rattle.job_log.specs.Jobs.{IsField, place_of}
use Rattle.job_log.specs.JobLog.{JobLogView, jobs_of, log_of}
use Rattle.job_log.specs.JobLog.{with_entry as log_with}
use Rattle.job_log.proofs.EntriesOfJobs.{changed-job}
use Rattle.job_log.proofs.JobsOfLogs.{started_after}
use Rattle.job_log.proofs.JobPlaces.{apart-at_job}
use Rattle.engine_core.specs.BegunItems.{begun_at, begun_of, place_in}
use Rattle.engine_core.specs.EngineView.{EngineView, IsEngine, NoOtherBegan, due_events, log_with_all, then_due}
use Rattle.engine_core.specs.Items.{IsDueLess, IsDueWithin, worked_event}
use Rattle.engine_core.proofs.BegunAfterEntries.{IsBegunLog, keeps-done, keeps-given_back, keeps-hand_out, keeps-order, keeps-progress, keeps-same, keeps-start}
use Rattle.engine_core.proofs.BegunLemmas.{KeepsBegun, Places, begun-entry, begun-none}
use Rattle.engine_core.proofs.DueEntries.{due_within, found-at_job, jobs_of-entry, map_found, others_held}
use Rattle.engine_core.proofs.DueJobs.{closes_in_three, due-held, held-at_job, held-come_to, held-due, held-given_back, held-hand_out, held-last, held-new_job, held-ordered}

pub either_way : {T E A B C : Type 0} (r : Result T E) → OnOk r A → OnErr r B → (A → C) → (B → C) → C
either_way (Ok x) a b f g = f a
either_way (Err e) a b f g = g b

abbrev engine : JobLogView → Places → EngineView
engine log begun = record { log = log; begun = begun }

pub engine_entry : (log : JobLogView) (begun : Places) (e : EngineEntry) → IsEngine (engine log begun) → due (after_event log.field e.event (jobs_of log)) ≡ None → KeepsBegun log e begun → IsEngine (engine (log_with log e) begun)
engine_entry log begun e is none keeps = record { due_none = ap due (jobs_of-entry log e) ∙ none; begun = begun-entry log e begun keeps is.begun }

-- an entry that changes no job
pub engine_same : (log : JobLogView) (begun : Places) (e : EngineEntry) → after_event log.field e.event (jobs_of log) ≡ jobs_of log → ((job : JobId) (item : ℕ) → touches job item e.event ≡ false) → IsEngine (engine log begun)
    → IsEngine (engine (log_with log e) begun)
engine_same log begun e same none is = engine_entry log begun e is (ap due same ∙ is.due_none) (keeps-same log e begun same none)

pub worked_same : (field : Field) (jobs : List JobState) (asked steps : ℕ) → after_event field (worked_event asked steps) jobs ≡ jobs
worked_same field jobs asked steps = elim (nat_eq asked 0) as (λ t. after_event field (cond t (event.Drain steps) (event.Work asked steps)) jobs ≡ jobs) [ true ↦ refl | false ↦ refl ]

pub worked_touches : (asked steps : ℕ) (job : JobId) (item : ℕ) → touches job item (worked_event asked steps) ≡ false
worked_touches asked steps job item = elim (nat_eq asked 0) as (λ t. touches job item (cond t (event.Drain steps) (event.Work asked steps)) ≡ false) [ true ↦ refl | false ↦ refl ]

pub engine_order : (log : JobLogView) (begun : Places) (by : By) (job : JobId) (order : JobOrder) (done : OrderEffect) → IsEngine (engine log begun)
    → IsEngine (engine (log_with log (record { by = by; event = event.Order job order done })) begun)
engine_order log begun by job order done is = engine_entry log begun (record { by = by; event = event.Order job order done }) is (none done) (keeps-order log by job order done begun)
  where
    none : (x : OrderEffect) → due (after_event log.field (event.Order job order x) (jobs_of log)) ≡ None
    none effect.Changed = held-at_job job (ordered order) (jobs_of log) (held-ordered order) is.due_none
    none effect.Same = is.due_none
    none effect.NotActive = is.due_none

pub engine_hand_out : (log : JobLogView) (begun : Places) (by : By) (job : JobId) (phase first count : ℕ) (j : JobState) → find_job job (jobs_of log) ≡ Some j → IsRun j phase first count → IsEngine (engine log begun)
    → IsEngine (engine (log_with log (record { by = by; event = event.HandOut job phase first count })) begun)
engine_hand_out log begun by job phase first count j found run is =
    engine_entry log begun (record { by = by; event = event.HandOut job phase first count }) is
    (held-at_job job (changed log.field (event.HandOut job phase first count)) (jobs_of log) (held-hand_out first count) is.due_none) (keeps-hand_out log by job phase first count j begun found run)

pub engine_progress : (log : JobLogView) (begun : Places) (by : By) (job : JobId) (item next : ℕ) → NoOtherBegan (engine log begun) job item → IsEngine (engine log begun)
    → IsEngine (engine (log_with log (record { by = by; event = event.Progress job item next })) begun)
engine_progress log begun by job item next own is =
    engine_entry log begun (record { by = by; event = event.Progress job item next }) is
    (held-at_job job (changed log.field (event.Progress job item next)) (jobs_of log) (held-come_to item next) is.due_none) (keeps-progress log by job item next begun own)

-- the place of an item that is not begun any more
gone : (begun : Places) (at : ℕ) → slice_index_or (slice_set begun at None) at None ≡ None
gone [] at = refl
gone (x ∷ xs) zero = refl
gone (x ∷ xs) (suc at) = gone xs at

pub none_begun : (jobs : List JobState) (begun : Places) (job : JobId) (order item place : ℕ) → place_of job jobs ≡ Some order → place ≡ place_in order item → begun_of jobs (slice_set begun place None) job item ≡ None
none_begun jobs begun job order item place placed at =
    ap (λ o. begun_at (slice_set begun place None) o item) placed
    ∙ subst (λ n. slice_index_or (slice_set begun place None) n None ≡ None) at (gone begun place)

pub engine_given_back : (log : JobLogView) (begun : Places) (by : By) (job : JobId) (order item place next : ℕ) → place_of job (jobs_of log) ≡ Some order → place ≡ place_in order item → IsEngine (engine log begun)
    → IsEngine (engine (log_with log (record { by = by; event = event.GiveBack job item next })) (slice_set begun place None))
engine_given_back log begun by job order item place next placed at is =
    let left : IsEngine (engine log (slice_set begun place None)) = record { due_none = is.due_none; begun = begun-none log.field (jobs_of log) log.notes begun place is.begun } in
    engine_entry log (slice_set begun place None) (record { by = by; event = event.GiveBack job item next }) left
    (held-at_job job (changed log.field (event.GiveBack job item next)) (jobs_of log) (held-given_back item next) is.due_none) (keeps-given_back log by job item next (slice_set begun place None) (none_begun (jobs_of log) begun job order item place placed at))

pub begun_done : (log : JobLogView) (begun : Places) (by : By) (job : JobId) (order item place : ℕ) (end : End) → place_of job (jobs_of log) ≡ Some order → place ≡ place_in order item → IsEngine (engine log begun)
    → IsBegunLog (log_with log (record { by = by; event = event.Done job item end })) (slice_set begun place None)
begun_done log begun by job order item place end placed at is =
    begun-entry log (record { by = by; event = event.Done job item end }) (slice_set begun place None) (keeps-done log by job item end (slice_set begun place None) (none_begun (jobs_of log) begun job order item place placed at))
    (begun-none log.field (jobs_of log) log.notes begun place is.begun)

-- an item of a job that is out: there is the job
pub job_of_out : (jobs : List JobState) (job : JobId) (item : ℕ) → is_item_out jobs job item ≡ true → (j : JobState) × (find_job job jobs ≡ Some j)
job_of_out jobs job item out = by_found (find_job job jobs) out
  where
    by_found : (o : Option JobState) → out_of o item ≡ true → (j : JobState) × (o ≡ Some j)
    by_found None none = absurd cc
    by_found (Some j) there = (j, refl)

-- what may follow the end of an item
pub done_within : (log : JobLogView) (by : By) (job : JobId) (item : ℕ) (end : End) → IsField log.field → is_item_out (jobs_of log) job item ≡ true → due (jobs_of log) ≡ None
    → IsDueWithin 3 log.field (jobs_of (log_with log (record { by = by; event = event.Done job item end })))
done_within log by job item end limits out none =
    let f = changed log.field (event.Done job item end) in
    let found = job_of_out (jobs_of log) job item out in
    subst (λ (js : List JobState). IsDueWithin 3 log.field js) (sym (jobs_of-entry log (record { by = by; event = event.Done job item end })))
    (due_within 3 log.field job (at_job job f (jobs_of log)) (f found.0) (apart-at_job job f (jobs_of log) (changed-job log.field (event.Done job item end)) (started_after log.field (log_of log)).apart)
    (others_held job f (jobs_of log) (changed-job log.field (event.Done job item end)) none)
    (found-at_job job f (jobs_of log) (changed-job log.field (event.Done job item end)) ∙ ap (map_found f) found.1) (closes_in_three log.field (f found.0) limits))

pub engine_start : (log : JobLogView) (begun : Places) (by : By) (job : JobId) (kind : JobKind) (priority epoch : ℕ) (bars : DriveSet) → IsField log.field → is_started job (jobs_of log) ≡ false → IsEngine (engine log begun)
    → IsEngine (engine (log_with log (record { by = by; event = event.Start job kind priority epoch bars })) begun)
engine_start log begun by job kind priority epoch bars limits fresh is =
    let new = new_job log.field (length (jobs_of log)) job kind priority bars in
    engine_entry log begun (record { by = by; event = event.Start job kind priority epoch bars }) is
    (ap (λ (t : Bool). due (cond t (jobs_of log) (jobs_of log ++ new ∷ []))) fresh ∙ due-held _ (held-last (jobs_of log) new (held-due (jobs_of log) is.due_none) (held-new_job log.field (length (jobs_of log)) job kind priority bars limits)))
    (keeps-start log by job kind priority epoch bars begun fresh)

-- ---- what is due, one entry at a time

pub due_step : (most k : ℕ) (log : JobLogView) (by : By) (e : EngineEvent) → most ≡ suc k → due (jobs_of log) ≡ Some e → IsDueWithin most log.field (jobs_of log)
    → IsDueWithin k log.field (jobs_of (log_with log (record { by = by; event = e })))
due_step most k log by e counted is within =
    subst (λ (js : List JobState). IsDueWithin k log.field js) (sym (jobs_of-entry log (record { by = by; event = e })))
    (subst (IsDueLess (suc k) log.field (jobs_of log)) is (subst (λ n. IsDueWithin n log.field (jobs_of log)) counted within))

pub entries_step : (most k : ℕ) (log : JobLogView) (by : By) (e : EngineEvent) → most ≡ suc k → due (jobs_of log) ≡ Some e
    → log_with_all (log_with log (record { by = by; event = e })) by (due_events k log.field (jobs_of (log_with log (record { by = by; event = e })))) ≡ log_with_all log by (due_events most log.field (jobs_of log))
entries_step most k log by e counted is =
    ap (λ (js : List JobState). log_with_all (log_with log (record { by = by; event = e })) by (due_events k log.field js)) (jobs_of-entry log (record { by = by; event = e }))
    ∙ sym (ap (λ n. log_with_all log by (due_events n log.field (jobs_of log))) counted ∙ ap (λ o. log_with_all log by (then_due o (λ x. due_events k log.field (after_event log.field x (jobs_of log))))) is)

pub entries_none : (most : ℕ) (log : JobLogView) (by : By) → due (jobs_of log) ≡ None → log ≡ log_with_all log by (due_events most log.field (jobs_of log))
entries_none zero log by is = refl
entries_none (suc k) log by is = sym (ap (λ o. log_with_all log by (then_due o (λ x. due_events k log.field (after_event log.field x (jobs_of log))))) is)
