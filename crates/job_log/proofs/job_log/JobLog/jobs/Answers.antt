use Rattle.std.proofs.Common.{◌≤◌, List, length, subst, ◌∙◌}
use Rattle.engine_history.specs.declared.job.JobState.{JobState}
use Rattle.job_log.specs.Jobs.{AreSound, IsField}
use Rattle.job_log.specs.JobLog.{JobLogView}
use Rattle.job_log.proofs.StampedEntries.{jobs_inside}
use Rattle.job_log.proofs.job_log.JobLog.jobs.Goals as goal

pub returns-clause-value : goal.returns-clause-value
returns-clause-value c = c.deref.ensures.value ∙ jobs_inside c.self.inside c.args.self.now c.self.view_is c.self.invariant.stamped_each c.self.invariant.jobs_now

pub returns-clause-log : goal.returns-clause-log
returns-clause-log c =
    let jobs = jobs_inside c.self.inside c.args.self.now c.self.view_is c.self.invariant.stamped_each c.self.invariant.jobs_now in
    record {
      field = subst (λ (l : JobLogView). IsField l.field) c.self.view_is c.self.invariant.field;
      sound = subst AreSound jobs c.self.invariant.sound;
      few = subst (λ (js : List JobState). length js ≤ 64) jobs c.self.invariant.few;
    }
