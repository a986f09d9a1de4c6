use Rattle.std.proofs.Common.{arith}
use Rattle.job_rules.specs.Why.{is_leaving}
use Rattle.job_rules.proofs.FirstInRank.{walked}
use Rattle.job_rules.proofs.waits.first_leaving.Goals as goal

pub returns : goal.returns
returns c = walked (is_leaving c.args.own.now c.args.kept.now) c.args.jobs.now c.loop-job.job-index c.loop-job.first (omega arith) c.loop-job.invariant
