use Rattle.std.proofs.Common.{◌∙◌}
use Rattle.job_log.proofs.StampedEntries.{log_inside}
use Rattle.job_log.proofs.job_log.JobLog.close.Goals as goal

pub returns : goal.returns
returns c = c.from_vec.ensures ∙ log_inside c.self.inside c.args.self c.self.view_is c.self.invariant.stamped_each
