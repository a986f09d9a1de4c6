use Rattle.std.proofs.Common.{sym, ap, subst, ◌∙◌}
use Rattle.job_log.specs.JobLog.{jobs_of, log_of}
use Rattle.job_log.proofs.JobsOfLogs.{started_after}
use Rattle.checkpoints.specs.Saved.{IsCheckpoint}
use Rattle.job_log.specs.Jobs.{AreOrderedFrom}
use Rattle.engine_core.specs.SavedJobs.{checkpoint_of}
use Rattle.engine_core.proofs.CountedItems.{counted_after}
use Rattle.engine_core.proofs.SpelledJobs.{checkpoint_is}
use Rattle.engine_core.proofs.engine.Engine.checkpoint.Goals as goal

pub checkpoint_of-requires-clause-ordered : goal.checkpoint_of-requires-clause-ordered
checkpoint_of-requires-clause-ordered c = subst (AreOrderedFrom 0) (sym c.jobs.ensures.value) (started_after c.self.inside.log.field (log_of c.self.inside.log)).ordered

pub write-requires : goal.write-requires
write-requires c =
    let log = c.self.inside.log in
    let kept = c.jobs.ensures.log in
    let started = started_after log.field (log_of log) in
    subst IsCheckpoint (sym (c.in_ok-saved.ensures ∙ ap checkpoint_of c.jobs.ensures.value))
    (checkpoint_is log.field (jobs_of log) kept.field kept.sound (counted_after log.field (log_of log)) c.self.invariant.0.due_none started.apart started.ordered kept.few)
