use Rattle.std.proofs.Common.{◌&&◌, arith}
use Rattle.job_rules.specs.Rank.{is_after}
use Rattle.job_rules.specs.Chosen.{fits}
use Rattle.job_rules.proofs.FirstInRank.{walked}
use Rattle.job_rules.proofs.choice.first_that_fits.Goals as goal

pub returns : goal.returns
returns c = walked (λ v. is_after c.args.last v && fits c.args.kept.now v) c.args.jobs.now c.loop-job.job-index c.loop-job.first (omega arith) c.loop-job.invariant
