use Rattle.std.proofs.Common.{◌&&◌, arith}
use Rattle.job_rules.specs.Rank.{is_after}
use Rattle.job_rules.specs.Why.{is_other_out}
use Rattle.job_rules.proofs.FirstInRank.{walked}
use Rattle.job_rules.proofs.waits.next_out.Goals as goal

pub returns : goal.returns
returns c = walked (λ v. is_after c.args.last v && is_other_out c.args.own.now v) c.args.jobs.now c.loop-job.job-index c.loop-job.first (omega arith) c.loop-job.invariant
