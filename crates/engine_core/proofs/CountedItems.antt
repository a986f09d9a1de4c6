-- The items of a job are as many as its phase has, after any log.
use Rattle.std.proofs.Common.{◌≡◌, ℕ, zero, suc, ◌≤◌, true, false, cond, List, [], ◌∷◌, ◌++◌, length, Option, Some, None, refl, sym, ap, ◌∙◌, subst, arith}
use Rattle.std.specs.List.{AllByRecursion}
use Rattle.domains.specs.declared.drive_set.DriveSet.{DriveSet}
use Rattle.checkpoints.specs.Saved.{drives_of}
use Rattle.job_rules.specs.Kinds.{phase_at}
use Rattle.job_rules.specs.Phases.{items_of}
use Rattle.job_rules.specs.declared.job.JobId.{JobId}
use Rattle.job_rules.specs.declared.phase.Items.{Items}
use Rattle.job_rules.specs.declared.phase.Items.TheVariants.{Files, BarredDrives, Drives}
use Rattle.job_rules.specs.declared.phase.Phase.{Phase}
use Rattle.engine_history.specs.Items.{come_to, ended, given_back, handed_out, new_items}
use Rattle.engine_history.specs.Jobs.{Field, after_event, at_job, count_of, is_job, is_started, items_in, jobs_after, jobs_from, new_job, ordered}
use Rattle.engine_history.specs.declared.entry.EngineEntry.{EngineEntry}
use Rattle.engine_history.specs.declared.entry.EngineEvent.{EngineEvent}
use Rattle.engine_history.specs.declared.entry.EngineEvent.TheVariants as event
use Rattle.engine_history.specs.declared.entry.JobOrder.{JobOrder}
use Rattle.engine_history.specs.declared.entry.JobOrder.TheVariants.{Pause, Resume, Cancel}
use Rattle.engine_history.specs.declared.entry.OrderEffect.TheVariants as effect
use Rattle.engine_history.specs.declared.job.JobState.{JobState}
use Rattle.job_log.specs.Changes.{changed}
use Rattle.job_log.specs.Jobs.{IsField}
use Rattle.job_log.proofs.ChangedItems.{items_from-length}
use Rattle.job_log.proofs.JobPlaces.{all-at_job}

abbrev pub IsCounted : Field → JobState → Type 0
IsCounted field j = length j.items ≡ length (items_in field j.bars (phase_at j.kind j.phase))

counted-ordered : (field : Field) (order : JobOrder) (j : JobState) → IsCounted field j → IsCounted field (ordered order j)
counted-ordered field Pause j h = h
counted-ordered field Resume j h = h
counted-ordered field Cancel j h = h

counted-changed : (field : Field) (e : EngineEvent) (j : JobState) → IsCounted field j → IsCounted field (changed field e j)
counted-changed field (event.Start job kind priority epoch bars) j h = h
counted-changed field (event.JobsFull job) j h = h
counted-changed field (event.Order job order effect.Changed) j h = counted-ordered field order j h
counted-changed field (event.Order job order effect.Same) j h = h
counted-changed field (event.Order job order effect.NotActive) j h = h
counted-changed field (event.HandOut job phase first count) j h = items_from-length first count handed_out j.items ∙ h
counted-changed field (event.Progress job item next) j h = items_from-length item 1 (come_to next) j.items ∙ h
counted-changed field (event.GiveBack job item next) j h = items_from-length item 1 (given_back next) j.items ∙ h
counted-changed field (event.Done job item end) j h = items_from-length item 1 (λ i. ended end) j.items ∙ h
counted-changed field (event.PhaseEnd job phase) j h = refl
counted-changed field (event.Finish job result) j h = h
counted-changed field event.Restart j h = h
counted-changed field (event.Work asked steps) j h = h
counted-changed field (event.Drain steps) j h = h

abbrev pub AreCounted : Field → List JobState → Type 0
AreCounted field jobs = AllByRecursion (IsCounted field) jobs

one : (field : Field) (e : EngineEvent) (job : JobId) (jobs : List JobState) → AreCounted field jobs → AreCounted field (at_job job (changed field e) jobs)
one field e job jobs all = all-at_job (IsCounted field) job (changed field e) jobs (each jobs) all
  where
    each : (ks : List JobState) → AllByRecursion (λ (k : JobState). is_job job k ≡ true → IsCounted field k → IsCounted field (changed field e k)) ks
    each [] = tt
    each (k ∷ ks) = ((λ _ h. counted-changed field e k h), each ks)

last : (field : Field) (jobs : List JobState) (j : JobState) → AreCounted field jobs → IsCounted field j → AreCounted field (jobs ++ j ∷ [])
last field [] j all here = (here, tt)
last field (x ∷ xs) j all here = (all.0, last field xs j all.1 here)

counted-event : (field : Field) (e : EngineEvent) (jobs : List JobState) → AreCounted field jobs → AreCounted field (after_event field e jobs)
counted-event field (event.Start job kind priority epoch bars) jobs all =
    elim (is_started job jobs) as (λ t. AreCounted field (cond t jobs (jobs ++ new_job field (length jobs) job kind priority bars ∷ []))) [
      | true ↦ all
      | false ↦ last field jobs (new_job field (length jobs) job kind priority bars) all refl
    ]
counted-event field (event.JobsFull job) jobs all = all
counted-event field (event.Order job order effect.Changed) jobs all = one field (event.Order job order effect.Changed) job jobs all
counted-event field (event.Order job order effect.Same) jobs all = all
counted-event field (event.Order job order effect.NotActive) jobs all = all
counted-event field (event.HandOut job phase first count) jobs all = one field (event.HandOut job phase first count) job jobs all
counted-event field (event.Progress job item next) jobs all = one field (event.Progress job item next) job jobs all
counted-event field (event.GiveBack job item next) jobs all = one field (event.GiveBack job item next) job jobs all
counted-event field (event.Done job item end) jobs all = one field (event.Done job item end) job jobs all
counted-event field (event.PhaseEnd job phase) jobs all = one field (event.PhaseEnd job phase) job jobs all
counted-event field (event.Finish job result) jobs all = one field (event.Finish job result) job jobs all
counted-event field event.Restart jobs all = all
counted-event field (event.Work asked steps) jobs all = all
counted-event field (event.Drain steps) jobs all = all

counted_from : (field : Field) (log : List EngineEntry) (jobs : List JobState) → AreCounted field jobs → AreCounted field (jobs_from field log jobs)
counted_from field [] jobs all = all
counted_from field (e ∷ es) jobs all = counted_from field es (after_event field e.event jobs) (counted-event field e.event jobs all)

pub counted_after : (field : Field) (log : List EngineEntry) → AreCounted field (jobs_after field log)
counted_after field log = counted_from field log [] tt

length-new_items : (n : ℕ) → length (new_items n) ≡ n
length-new_items zero = refl
length-new_items (suc n) = ap suc (length-new_items n)

-- a phase has at most 256 items
pub few_in : (field : Field) (bars : DriveSet) (phase : Option Phase) → IsField field → length (drives_of bars) ≤ 200 → length (items_in field bars phase) ≤ 256
few_in field bars None limits barred = omega arith
few_in field bars (Some phase) limits barred = subst (λ n. n ≤ 256) (sym (length-new_items (count_of field bars (items_of phase)))) (few (items_of phase))
  where
    few : (items : Items) → count_of field bars items ≤ 256
    few Files = limits.files
    few BarredDrives = omega (arith, barred)
    few Drives = let all = limits.shape.all_drives in omega (arith, all)
