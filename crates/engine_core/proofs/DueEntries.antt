-- The entries that follow at once.
use Rattle.std.proofs.Common.{◌≡◌, ◌≢◌, ℕ, zero, suc, ◌<◌, ◌≤◌, Bool, true, false, cond, List, [], ◌∷◌, ◌++◌, length, Option, Some, None, refl, sym, ap, ◌∙◌, subst, arith, eq-eqb, nat_eq}
use Rattle.std.specs.Prelude.{IfSome}
use Rattle.std.specs.List.{AllByRecursion}
use Rattle.domains.specs.declared.by.By.{By}
use Rattle.job_rules.specs.Kinds.{phase_at, phase_in, phases_of}
use Rattle.job_rules.specs.declared.job.JobId.{JobId}
use Rattle.job_rules.specs.declared.phase.Phase.{Phase}
use Rattle.turn_cell.specs.Notes.{entries_by}
use Rattle.turn_cell.specs.declared.chronicle.Note.{Note}
use Rattle.engine_history.specs.Begun.{entries_of}
use Rattle.engine_history.specs.Jobs.{Field, after_event, at_job, find_job, is_job, jobs_after}
use Rattle.engine_history.specs.Steps.{IsFreeStep, IsStepWhere, MadeBy, World, due, due_of, end_of_phase, or_due}
use Rattle.engine_history.specs.declared.entry.EngineEntry.{EngineEntry}
use Rattle.engine_history.specs.declared.entry.EngineEvent.{EngineEvent}
use Rattle.engine_history.specs.declared.job.JobState.{JobState}
use Rattle.engine_history.proofs.LongerLogs.{jobs_after-push}
use Rattle.job_log.specs.Changes.{changed}
use Rattle.job_log.specs.Jobs.{AreApart}
use Rattle.job_log.specs.JobLog.{Fits, JobLogView, jobs_of, log_of, note_of}
use Rattle.job_log.specs.JobLog.{with_entry as log_with}
use Rattle.job_log.proofs.EntriesOfJobs.{changed-job}
use Rattle.job_log.proofs.JobPlaces.{all-at_job, apart-at_job, none_behind, not_job, number_is}
use Rattle.engine_core.specs.EngineView.{AreLegalNow, EngineView, IsLegalNow, due_events, jobs_now, log_with_all, then_due, with_entry}
use Rattle.engine_core.specs.Items.{IsDueLess, IsDueWithin}
use Rattle.engine_core.proofs.DueJobs.{AreHeld, Closes, ClosesBy, after_due, at_most_three, due-held, held-due, is_held, none-held}

-- ---- one job that something may be due of

abbrev pub AreOtherHeld : JobId → List JobState → Type 0
AreOtherHeld job jobs = AllByRecursion (λ (k : JobState). is_job job k ≡ false → is_held k ≡ true) jobs

abbrev due_found : Option JobState → Option EngineEvent
due_found None = None
due_found (Some j) = due_of j

or_due-none : (a : Option EngineEvent) → or_due a None ≡ a
or_due-none None = refl
or_due-none (Some e) = refl

rest_held : (job : JobId) (js : List JobState) → AllByRecursion (λ (k : JobState). is_job job k ≡ false) js → AreOtherHeld job js → AreHeld js
rest_held job [] none held = tt
rest_held job (k ∷ ks) none held = (held.0 none.0, rest_held job ks none.1 held.1)

pub due-found : (job : JobId) (jobs : List JobState) → AreApart jobs → AreOtherHeld job jobs → due jobs ≡ due_found (find_job job jobs)
due-found job [] apart held = refl
due-found job (j ∷ js) apart held =
    elim (is_job job j) as (λ t. is_job job j ≡ t → or_due (due_of j) (due js) ≡ due_found (cond t (Some j) (find_job job js))) [
      | true ↦ λ named. ap (or_due (due_of j)) (due-held js (rest_held job js (none_behind job j js named apart.0) held.1)) ∙ or_due-none (due_of j)
      | false ↦ λ other. ap (λ a. or_due a (due js)) (none-held j (held.0 other)) ∙ due-found job js apart.1 held.1
    ] refl

abbrev pub map_found : (JobState → JobState) → Option JobState → Option JobState
map_found f None = None
map_found f (Some j) = Some (f j)

pub found-at_job : (job : JobId) (f : JobState → JobState) (jobs : List JobState) → ((j : JobState) → (f j).job ≡ j.job) → find_job job (at_job job f jobs) ≡ map_found f (find_job job jobs)
found-at_job job f [] same = refl
found-at_job job f (j ∷ js) same =
    elim (is_job job j) as (λ t. is_job job j ≡ t → cond (is_job job (cond t (f j) j)) (Some (cond t (f j) j)) (find_job job (at_job job f js)) ≡ map_found f (cond t (Some j) (find_job job js))) [
      | true ↦ λ named. ap (λ t. cond t (Some (f j)) (find_job job (at_job job f js))) (ap (λ (x : JobId). nat_eq x.number job.number) (same j) ∙ named)
      | false ↦ λ other. ap (λ t. cond t (Some j) (find_job job (at_job job f js))) other ∙ found-at_job job f js same
    ] refl

-- the job that is found has this number
pub found_job : (job : JobId) (jobs : List JobState) (j : JobState) → find_job job jobs ≡ Some j → j.job ≡ job
found_job job [] j found = absurd cc
found_job job (k ∷ ks) j found =
    elim (is_job job k) as (λ t. is_job job k ≡ t → cond t (Some k) (find_job job ks) ≡ Some j → j.job ≡ job) [
      | true ↦ λ named here. let same : k ≡ j = cc in subst (λ (x : JobState). x.job ≡ job) same (ap (λ (n : ℕ). let made : JobId = record { number = n } in made) (number_is job k named))
      | false ↦ λ _ later. found_job job ks j later
    ] refl found

-- what is due of a job names it
ends_name : (field : Field) (j : JobState) (jobs : List JobState) (o : Option Phase) → after_event field (end_of_phase j o) jobs ≡ at_job j.job (changed field (end_of_phase j o)) jobs
ends_name field j jobs None = refl
ends_name field j jobs (Some phase) = refl

pub due_is : (j : JobState) (e : EngineEvent) → due_of j ≡ Some e → end_of_phase j (phase_at j.kind j.phase) ≡ e
due_is j e is = elim (is_held j) as (λ t. cond t None (Some (end_of_phase j (phase_at j.kind j.phase))) ≡ Some e → end_of_phase j (phase_at j.kind j.phase) ≡ e) [ true ↦ λ none. absurd cc | false ↦ λ some. cc ] is

pub due_names : (field : Field) (j : JobState) (jobs : List JobState) (e : EngineEvent) → due_of j ≡ Some e → after_event field e jobs ≡ at_job j.job (changed field e) jobs
due_names field j jobs e is = subst (λ (x : EngineEvent). after_event field x jobs ≡ at_job j.job (changed field x) jobs) (due_is j e is) (ends_name field j jobs (phase_at j.kind j.phase))

other_held-at_job : (job : JobId) (f : JobState → JobState) (jobs : List JobState) → ((j : JobState) → (f j).job ≡ j.job) → AreOtherHeld job jobs → AreOtherHeld job (at_job job f jobs)
other_held-at_job job f jobs same held = all-at_job (λ (k : JobState). is_job job k ≡ false → is_held k ≡ true) job f jobs (each jobs) held
  where
    clash : {t : Bool} → t ≡ true → t ≡ false → ⊥
    clash passes fails = cc

    each : (ks : List JobState) → AllByRecursion (λ (k : JobState). is_job job k ≡ true → (is_job job k ≡ false → is_held k ≡ true) → is_job job (f k) ≡ false → is_held (f k) ≡ true) ks
    each [] = tt
    each (k ∷ ks) = ((λ named _ other. absurd (clash named (sym (ap (λ (x : JobId). nat_eq x.number job.number) (same k)) ∙ other))), each ks)

-- what is due of one job, once nothing is due of the others
pub due_within : (n : ℕ) (field : Field) (job : JobId) (jobs : List JobState) (j : JobState) → AreApart jobs → AreOtherHeld job jobs → find_job job jobs ≡ Some j → Closes n field j → IsDueWithin n field jobs
due_within zero field job jobs j apart held found closes =
    subst (IsDueLess 0 field jobs) (sym (due-found job jobs apart held ∙ ap due_found found)) (none_due (due_of j) closes)
  where
    none_due : (o : Option EngineEvent) → ClosesBy (after_due field) 0 j o → IsDueLess 0 field jobs o
    none_due None c = tt
    none_due (Some e) c = c
due_within (suc n) field job jobs j apart held found closes =
    subst (IsDueLess (suc n) field jobs) (sym (due-found job jobs apart held ∙ ap due_found found)) (by_due (due_of j) refl closes (λ e. due_within n field job (at_job job (changed field e) jobs) (changed field e j)))
  where
    by_due : (o : Option EngineEvent) → due_of j ≡ o → ClosesBy (after_due field) (suc n) j o
        → ((e : EngineEvent) → AreApart (at_job job (changed field e) jobs) → AreOtherHeld job (at_job job (changed field e) jobs) → find_job job (at_job job (changed field e) jobs) ≡ Some (changed field e j) → Closes n field (changed field e j)
        → IsDueWithin n field (at_job job (changed field e) jobs)) → IsDueLess (suc n) field jobs o
    by_due None is c next = tt
    by_due (Some e) is c next =
        let after : after_event field e jobs ≡ at_job job (changed field e) jobs = due_names field j jobs e is ∙ ap (λ (x : JobId). at_job x (changed field e) jobs) (found_job job jobs j found) in
        subst (λ (js : List JobState). IsDueWithin n field js) (sym after)
        (next e (apart-at_job job (changed field e) jobs (changed-job field e) apart)
        (other_held-at_job job (changed field e) jobs (changed-job field e) held) (found-at_job job (changed field e) jobs (changed-job field e) ∙ ap (map_found (changed field e)) found) c)

-- where nothing was due, nothing is due of the jobs but the one that changed
pub others_held : (job : JobId) (f : JobState → JobState) (jobs : List JobState) → ((j : JobState) → (f j).job ≡ j.job) → due jobs ≡ None → AreOtherHeld job (at_job job f jobs)
others_held job f jobs same none = other_held-at_job job f jobs same (each jobs (held-due jobs none))
  where
    each : (ks : List JobState) → AreHeld ks → AreOtherHeld job ks
    each [] held = tt
    each (k ∷ ks) held = ((λ _. held.0), each ks held.1)

-- ---- what is due may be appended

phase_few : (phases : List Phase) (n : ℕ) (x : Phase) → phase_in phases n ≡ Some x → n < length phases
phase_few [] n x is = absurd cc
phase_few (p ∷ ps) zero x is = omega arith
phase_few (p ∷ ps) (suc n) x is = omega (arith, phase_few ps n x is)

-- the job that something is due of
pub record IsDueOf (jobs : List JobState) (e : EngineEvent) : Type 0 where
  pub state : JobState
  pub found : find_job state.job jobs ≡ Some state
  pub is : due_of state ≡ Some e

itself : (j : JobState) → is_job j.job j ≡ true
itself j = eq-eqb j.job.number j.job.number refl

among_not : (j k : JobState) (js : List JobState) → AllByRecursion (λ (x : JobState). j.job.number ≢ x.job.number) js → find_job k.job js ≡ Some k → is_job k.job j ≡ false
among_not j k [] other found = absurd cc
among_not j k (x ∷ xs) other found =
    elim (is_job k.job x) as (λ t. is_job k.job x ≡ t → cond t (Some x) (find_job k.job xs) ≡ Some k → is_job k.job j ≡ false) [
      | true ↦ λ named _. not_job k.job j (λ same. other.0 (same ∙ sym (number_is k.job x named)))
      | false ↦ λ _ later. among_not j k xs other.1 later
    ] refl found

pub due_of_one : (jobs : List JobState) (e : EngineEvent) → AreApart jobs → due jobs ≡ Some e → IsDueOf jobs e
due_of_one [] e apart is = absurd cc
due_of_one (j ∷ js) e apart is = found (due_of j) refl is (due_of_one js e apart.1)
  where
    found : (o : Option EngineEvent) → due_of j ≡ o → or_due o (due js) ≡ Some e → (due js ≡ Some e → IsDueOf js e) → IsDueOf (j ∷ js) e
    found None none later rest =
        let d = rest later in
        record { state = d.state; found = ap (λ t. cond t (Some j) (find_job d.state.job js)) (among_not j d.state js apart.0 d.found) ∙ d.found; is = d.is }
    found (Some x) here same rest = record { state = j; found = ap (λ t. cond t (Some j) (find_job j.job js)) (itself j); is = here ∙ same }

fits_end : (jobs : List JobState) (j : JobState) (o : Option Phase) → find_job j.job jobs ≡ Some j → phase_at j.kind j.phase ≡ o → length (phases_of j.kind) ≤ 3 → Fits jobs (end_of_phase j o)
fits_end jobs j None found at few = tt
fits_end jobs j (Some x) found at few = subst (λ o. IfSome o (λ (k : JobState). k.phase ≤ 2)) (sym found) (below (phase_few (phases_of j.kind) j.phase x at))
  where
    below : j.phase < length (phases_of j.kind) → j.phase ≤ 2
    below under = omega (arith, under, few)

pub due_fits : (jobs : List JobState) (e : EngineEvent) → AreApart jobs → due jobs ≡ Some e → Fits jobs e
due_fits jobs e apart is =
    let d = due_of_one jobs e apart is in
    subst (Fits jobs) (due_is d.state e d.is) (fits_end jobs d.state (phase_at d.state.kind d.state.phase) d.found refl (at_most_three d.state.kind))

-- ---- legal entries

entries_of-push : (notes : List (Note EngineEntry)) (note : Note EngineEntry) → entries_of (notes ++ note ∷ []) ≡ entries_of notes ++ note.entry ∷ []
entries_of-push [] note = refl
entries_of-push (n ∷ ns) note = ap (λ l. n.entry ∷ l) (entries_of-push ns note)

pub jobs_of-entry : (log : JobLogView) (e : EngineEntry) → jobs_of (log_with log e) ≡ after_event log.field e.event (jobs_of log)
jobs_of-entry log e = ap (jobs_after log.field) (entries_of-push log.notes (note_of log e)) ∙ jobs_after-push log.field (log_of log) e

pub legal_free : (e : EngineView) (by : By) (x : EngineEvent) → due (jobs_now e) ≡ None
    → ((world : World) → world.field ≡ e.log.field → IsFreeStep world (jobs_now e) (entries_by e.log.seat e.log.notes) by x) → IsLegalNow e by x
legal_free e by x none free world same =
    let jobs : jobs_after world.field (log_of e.log) ≡ jobs_now e = ap (λ (f : Field). jobs_after f (log_of e.log)) same in
    subst (λ (js : List JobState). IsStepWhere world js (log_of e.log) (entries_by e.log.seat e.log.notes) (record { by = by; event = x }) (due js)) (sym jobs)
    (subst (IsStepWhere world (jobs_now e) (log_of e.log) (entries_by e.log.seat e.log.notes) (record { by = by; event = x })) (sym none) (free world same))

made_last : (by : By) (log : List EngineEntry) (e : EngineEntry) → e.by ≡ by → MadeBy by (log ++ e ∷ [])
made_last by [] e same = same
made_last by (x ∷ []) e same = same
made_last by (x ∷ y ∷ ys) e same = made_last by (y ∷ ys) e same

pub made_by : (log : JobLogView) (by : By) (x : EngineEvent) → MadeBy by (log_of (log_with log (record { by = by; event = x })))
made_by log by x = subst (MadeBy by) (sym (entries_of-push log.notes (note_of log (record { by = by; event = x })))) (made_last by (log_of log) (record { by = by; event = x }) refl)

legal_due : (e : EngineView) (by : By) (x : EngineEvent) → MadeBy by (log_of e.log) → due (jobs_now e) ≡ Some x → IsLegalNow e by x
legal_due e by x made is world same =
    let jobs : jobs_after world.field (log_of e.log) ≡ jobs_now e = ap (λ (f : Field). jobs_after f (log_of e.log)) same in
    subst (λ (js : List JobState). IsStepWhere world js (log_of e.log) (entries_by e.log.seat e.log.notes) (record { by = by; event = x }) (due js)) (sym jobs)
    (subst (IsStepWhere world (jobs_now e) (log_of e.log) (entries_by e.log.seat e.log.notes) (record { by = by; event = x })) (sym is) (refl, made))

pub legal_all_due : (n : ℕ) (e : EngineView) (by : By) → MadeBy by (log_of e.log) → AreLegalNow e by (due_events n e.log.field (jobs_now e))
legal_all_due zero e by made = tt
legal_all_due (suc n) e by made = by_due (due (jobs_now e)) refl (λ x. legal_all_due n (with_entry e by x) by (made_by e.log by x))
  where
    by_due : (o : Option EngineEvent) → due (jobs_now e) ≡ o → ((x : EngineEvent) → AreLegalNow (with_entry e by x) by (due_events n e.log.field (jobs_now (with_entry e by x))))
        → AreLegalNow e by (then_due o (λ x. due_events n e.log.field (after_event e.log.field x (jobs_now e))))
    by_due None is next = tt
    by_due (Some x) is next = (
      legal_due e by x made is,
      subst (λ (js : List JobState). AreLegalNow (with_entry e by x) by (due_events n e.log.field js)) (jobs_of-entry e.log (record { by = by; event = x })) (next x),
    )

-- what is due leaves nothing due behind it
pub due_none-all : (n : ℕ) (log : JobLogView) (by : By) → IsDueWithin n log.field (jobs_of log) → due (jobs_of (log_with_all log by (due_events n log.field (jobs_of log)))) ≡ None
due_none-all zero log by within = nothing (due (jobs_of log)) refl within
  where
    nothing : (o : Option EngineEvent) → due (jobs_of log) ≡ o → IsDueLess 0 log.field (jobs_of log) o → due (jobs_of log) ≡ None
    nothing None is h = is
    nothing (Some e) is h = absurd h
due_none-all (suc n) log by within = by_due (due (jobs_of log)) refl within (λ x. due_none-all n (log_with log (record { by = by; event = x })) by)
  where
    by_due : (o : Option EngineEvent) → due (jobs_of log) ≡ o → IsDueLess (suc n) log.field (jobs_of log) o
        → ((x : EngineEvent) → IsDueWithin n log.field (jobs_of (log_with log (record { by = by; event = x }))) → due (jobs_of (log_with_all (log_with log (record { by = by; event = x })) by (due_events n log.field (jobs_of (log_with log (record { by = by; event = x })))))) ≡ None)
        → due (jobs_of (log_with_all log by (then_due o (λ x. due_events n log.field (after_event log.field x (jobs_of log)))))) ≡ None
    by_due None is h next = is
    by_due (Some x) is h next =
        let e : EngineEntry = record { by = by; event = x } in
        subst (λ (js : List JobState). due (jobs_of (log_with_all (log_with log e) by (due_events n log.field js))) ≡ None) (jobs_of-entry log e)
        (next x (subst (λ (js : List JobState). IsDueWithin n log.field js) (sym (jobs_of-entry log e)) h))
