-- What an entry does to the job that it names.
use Rattle.std.proofs.Common.{◌≡◌, ℕ, List, length, Option, Some, None, refl, ap, ◌∙◌, ◌≤◌, subst}
use Rattle.std.specs.Prelude.{IfSome}
use Rattle.job_rules.specs.declared.job.JobId.{JobId}
use Rattle.engine_history.specs.Jobs.{Field, after_event, at_job, find_job, ordered}
use Rattle.engine_history.specs.declared.entry.EngineEvent.{EngineEvent}
use Rattle.engine_history.specs.declared.entry.EngineEvent.TheVariants as event
use Rattle.engine_history.specs.declared.entry.JobOrder.{JobOrder}
use Rattle.engine_history.specs.declared.entry.JobOrder.TheVariants.{Pause, Resume, Cancel}
use Rattle.engine_history.specs.declared.entry.OrderEffect.TheVariants as effect
use Rattle.engine_history.specs.declared.job.JobState.{JobState}
use Rattle.job_log.specs.Changes.{changed, job_of}
use Rattle.job_log.specs.Jobs.{IsRoomFor}
use Rattle.job_log.specs.JobLog.{Fits}
use Rattle.job_log.proofs.JobPlaces.{length-at_job}

-- a change of the job, if one is named
abbrev pub at_named : Option JobId → (JobState → JobState) → List JobState → List JobState
at_named None f jobs = jobs
at_named (Some job) f jobs = at_job job f jobs

pub after_event-named : (field : Field) (e : EngineEvent) (jobs : List JobState) → Fits jobs e → after_event field e jobs ≡ at_named (job_of e) (changed field e) jobs
after_event-named field (event.Start job kind priority epoch bars) jobs fits = absurd fits
after_event-named field (event.JobsFull job) jobs fits = refl
after_event-named field (event.Order job order effect.Changed) jobs fits = refl
after_event-named field (event.Order job order effect.Same) jobs fits = refl
after_event-named field (event.Order job order effect.NotActive) jobs fits = refl
after_event-named field (event.HandOut job phase first count) jobs fits = refl
after_event-named field (event.Progress job item next) jobs fits = refl
after_event-named field (event.GiveBack job item next) jobs fits = refl
after_event-named field (event.Done job item end) jobs fits = refl
after_event-named field (event.PhaseEnd job phase) jobs fits = refl
after_event-named field (event.Finish job result) jobs fits = refl
after_event-named field event.Restart jobs fits = refl
after_event-named field (event.Work asked steps) jobs fits = refl
after_event-named field (event.Drain steps) jobs fits = refl

ordered-job : (order : JobOrder) (j : JobState) → (ordered order j).job ≡ j.job
ordered-job Pause j = refl
ordered-job Resume j = refl
ordered-job Cancel j = refl

ordered-order : (order : JobOrder) (j : JobState) → (ordered order j).order ≡ j.order
ordered-order Pause j = refl
ordered-order Resume j = refl
ordered-order Cancel j = refl

pub changed-job : (field : Field) (e : EngineEvent) (j : JobState) → (changed field e j).job ≡ j.job
changed-job field (event.Start job kind priority epoch bars) j = refl
changed-job field (event.JobsFull job) j = refl
changed-job field (event.Order job order effect.Changed) j = ordered-job order j
changed-job field (event.Order job order effect.Same) j = refl
changed-job field (event.Order job order effect.NotActive) j = refl
changed-job field (event.HandOut job phase first count) j = refl
changed-job field (event.Progress job item next) j = refl
changed-job field (event.GiveBack job item next) j = refl
changed-job field (event.Done job item end) j = refl
changed-job field (event.PhaseEnd job phase) j = refl
changed-job field (event.Finish job result) j = refl
changed-job field event.Restart j = refl
changed-job field (event.Work asked steps) j = refl
changed-job field (event.Drain steps) j = refl

pub changed-order : (field : Field) (e : EngineEvent) (j : JobState) → (changed field e j).order ≡ j.order
changed-order field (event.Start job kind priority epoch bars) j = refl
changed-order field (event.JobsFull job) j = refl
changed-order field (event.Order job order effect.Changed) j = ordered-order order j
changed-order field (event.Order job order effect.Same) j = refl
changed-order field (event.Order job order effect.NotActive) j = refl
changed-order field (event.HandOut job phase first count) j = refl
changed-order field (event.Progress job item next) j = refl
changed-order field (event.GiveBack job item next) j = refl
changed-order field (event.Done job item end) j = refl
changed-order field (event.PhaseEnd job phase) j = refl
changed-order field (event.Finish job result) j = refl
changed-order field event.Restart j = refl
changed-order field (event.Work asked steps) j = refl
changed-order field (event.Drain steps) j = refl

-- an entry other than a start starts no job
pub length-after : (field : Field) (e : EngineEvent) (jobs : List JobState) → Fits jobs e → length (after_event field e jobs) ≡ length jobs
length-after field e jobs fits = ap (λ (js : List JobState). length js) (after_event-named field e jobs fits) ∙ named (job_of e)
  where
    named : (o : Option JobId) → length (at_named o (changed field e) jobs) ≡ length jobs
    named None = refl
    named (Some job) = length-at_job job (changed field e) jobs

some_same : (a b : JobId) → (let x : Option JobId = Some a in x) ≡ Some b → a ≡ b
some_same a b same = cc

-- the entry can be carried out
pub room_for : (files : ℕ) (job : JobId) (jobs : List JobState) (j : JobState) (e : EngineEvent) → files ≤ 256 → Fits jobs e → job_of e ≡ Some job → find_job job jobs ≡ Some j → IsRoomFor files j e
room_for files job jobs j (event.Start other kind priority epoch bars) few fits named found = tt
room_for files job jobs j (event.JobsFull other) few fits named found = tt
room_for files job jobs j (event.Order other order effect) few fits named found = tt
room_for files job jobs j (event.HandOut other phase first count) few fits named found = tt
room_for files job jobs j (event.Progress other item next) few fits named found = tt
room_for files job jobs j (event.GiveBack other item next) few fits named found = tt
room_for files job jobs j (event.Done other item end) few fits named found = tt
room_for files job jobs j (event.PhaseEnd other phase) few fits named found =
    (few, subst (λ o. IfSome o (λ (k : JobState). k.phase ≤ 2)) (ap (λ (n : JobId). find_job n jobs) (some_same other job named) ∙ found) fits)
room_for files job jobs j (event.Finish other result) few fits named found = tt
room_for files job jobs j event.Restart few fits named found = tt
room_for files job jobs j (event.Work asked steps) few fits named found = tt
room_for files job jobs j (event.Drain steps) few fits named found = tt
