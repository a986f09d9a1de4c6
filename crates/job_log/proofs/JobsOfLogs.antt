-- What holds of the jobs that any log leaves.
use Rattle.std.proofs.Common.{◌≡◌, ◌≢◌, ℕ, suc, ◌+◌, Bool, true, false, cond, ◌||◌, List, [], ◌∷◌, ◌++◌, length, Option, Some, None, refl, arith, eq-eqb}
use Rattle.std.specs.List.{AllByRecursion}
use Rattle.job_rules.specs.declared.job.JobId.{JobId}
use Rattle.engine_history.specs.Jobs.{Field, after_event, is_job, is_started, jobs_after, jobs_from, new_job}
use Rattle.engine_history.specs.declared.entry.EngineEntry.{EngineEntry}
use Rattle.engine_history.specs.declared.entry.EngineEvent.{EngineEvent}
use Rattle.engine_history.specs.declared.entry.EngineEvent.TheVariants as event
use Rattle.engine_history.specs.declared.entry.OrderEffect.TheVariants as effect
use Rattle.engine_history.specs.declared.job.JobState.{JobState}
use Rattle.job_log.specs.Changes.{changed}
use Rattle.job_log.specs.Jobs.{AreApart, AreOrderedFrom}
use Rattle.job_log.proofs.JobPlaces.{apart-at_job, ordered-at_job}
use Rattle.job_log.proofs.EntriesOfJobs.{at_named, changed-job, changed-order}

-- no job stands twice, and each has its place among the starts
pub record AreStarted (jobs : List JobState) : Type 0 where
  pub apart : AreApart jobs
  pub ordered : AreOrderedFrom 0 jobs

named : (field : Field) (e : EngineEvent) (o : Option JobId) (jobs : List JobState) → AreStarted jobs → AreStarted (at_named o (changed field e) jobs)
named field e None jobs s = s
named field e (Some job) jobs s = record {
  apart = apart-at_job job (changed field e) jobs (changed-job field e) s.apart;
  ordered = ordered-at_job 0 job (changed field e) jobs (changed-order field e) s.ordered;
}

ordered-last : (n : ℕ) (jobs : List JobState) (j : JobState) → AreOrderedFrom n jobs → j.order ≡ n + length jobs → AreOrderedFrom n (jobs ++ j ∷ [])
ordered-last n [] j ordered last = (omega (arith, last), tt)
ordered-last n (x ∷ xs) j ordered last = (ordered.0, ordered-last (suc n) xs j ordered.1 (omega (arith, last)))

or_false : (x y : Bool) → x || y ≡ false → (x ≡ false) × (y ≡ false)
or_false true y h = absurd cc
or_false false y h = (refl, h)

all_last : (P : JobState → Type 0) (jobs : List JobState) (j : JobState) → AllByRecursion P jobs → P j → AllByRecursion P (jobs ++ j ∷ [])
all_last P [] j all here = (here, tt)
all_last P (x ∷ xs) j all here = (all.0, all_last P xs j all.1 here)

apart-last : (jobs : List JobState) (j : JobState) → AreApart jobs → is_started j.job jobs ≡ false → AreApart (jobs ++ j ∷ [])
apart-last [] j apart fresh = (tt, tt)
apart-last (x ∷ xs) j apart fresh =
    let parts = or_false (is_job j.job x) (is_started j.job xs) fresh in
    (all_last (λ (k : JobState). x.job.number ≢ k.job.number) xs j apart.0 (differs parts.0), apart-last xs j apart.1 parts.1)
  where
    differs : is_job j.job x ≡ false → x.job.number ≢ j.job.number
    differs other same = clash other (eq-eqb x.job.number j.job.number same)
      where
        clash : {t : Bool} → t ≡ false → t ≡ true → ⊥
        clash fails passes = cc

pub started-start : (jobs : List JobState) (j : JobState) → AreStarted jobs → is_started j.job jobs ≡ false → j.order ≡ length jobs → AreStarted (jobs ++ j ∷ [])
started-start jobs j s fresh order = record { apart = apart-last jobs j s.apart fresh; ordered = ordered-last 0 jobs j s.ordered (omega (arith, order)) }

started-event : (field : Field) (e : EngineEvent) (jobs : List JobState) → AreStarted jobs → AreStarted (after_event field e jobs)
started-event field (event.Start job kind priority epoch bars) jobs s =
    elim (is_started job jobs) as (λ t. is_started job jobs ≡ t → AreStarted (cond t jobs (jobs ++ new_job field (length jobs) job kind priority bars ∷ []))) [
      | true ↦ λ _. s
      | false ↦ λ fresh. started-start jobs (new_job field (length jobs) job kind priority bars) s fresh refl
    ] refl
started-event field (event.JobsFull job) jobs s = s
started-event field (event.Order job order effect.Changed) jobs s = named field (event.Order job order effect.Changed) (Some job) jobs s
started-event field (event.Order job order effect.Same) jobs s = s
started-event field (event.Order job order effect.NotActive) jobs s = s
started-event field (event.HandOut job phase first count) jobs s = named field (event.HandOut job phase first count) (Some job) jobs s
started-event field (event.Progress job item next) jobs s = named field (event.Progress job item next) (Some job) jobs s
started-event field (event.GiveBack job item next) jobs s = named field (event.GiveBack job item next) (Some job) jobs s
started-event field (event.Done job item end) jobs s = named field (event.Done job item end) (Some job) jobs s
started-event field (event.PhaseEnd job phase) jobs s = named field (event.PhaseEnd job phase) (Some job) jobs s
started-event field (event.Finish job result) jobs s = named field (event.Finish job result) (Some job) jobs s
started-event field event.Restart jobs s = s
started-event field (event.Work asked steps) jobs s = s
started-event field (event.Drain steps) jobs s = s

started_from : (field : Field) (log : List EngineEntry) (jobs : List JobState) → AreStarted jobs → AreStarted (jobs_from field log jobs)
started_from field [] jobs s = s
started_from field (e ∷ es) jobs s = started_from field es (after_event field e.event jobs) (started-event field e.event jobs s)

pub started_after : (field : Field) (log : List EngineEntry) → AreStarted (jobs_after field log)
started_after field log = started_from field log [] (record { apart = tt; ordered = tt })
