-- What longer logs leave.
use Rattle.std.proofs.Common.{◌≡◌, List, [], ◌∷◌, ◌++◌, refl}
use Rattle.engine_history.specs.Jobs.{Field, after_event, jobs_after, jobs_from}
use Rattle.engine_history.specs.declared.entry.EngineEntry.{EngineEntry}
use Rattle.engine_history.specs.declared.job.JobState.{JobState}

pub jobs_from-push : (field : Field) (log : List EngineEntry) (e : EngineEntry) (jobs : List JobState)
    → jobs_from field (log ++ e ∷ []) jobs ≡ after_event field e.event (jobs_from field log jobs)
jobs_from-push field [] e jobs = refl
jobs_from-push field (f ∷ fs) e jobs = jobs_from-push field fs e (after_event field f.event jobs)

pub jobs_after-push : (field : Field) (log : List EngineEntry) (e : EngineEntry) → jobs_after field (log ++ e ∷ []) ≡ after_event field e.event (jobs_after field log)
jobs_after-push field log e = jobs_from-push field log e []
