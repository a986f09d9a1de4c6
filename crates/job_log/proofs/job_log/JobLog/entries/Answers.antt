use Rattle.std.proofs.Common.{◌∙◌, sym}
use Rattle.job_log.proofs.StampedEntries.{count_inside}
use Rattle.job_log.proofs.job_log.JobLog.entries.Goals as goal

pub returns : goal.returns
returns c = c.len.ensures ∙ sym (count_inside c.self.inside c.args.self.now c.self.view_is c.self.invariant.stamped_each)
