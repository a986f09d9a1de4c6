use Rattle.std.proofs.Common.{◌≡◌, ◌&&◌, drop, None}
use Rattle.job_rules.specs.Rank.{is_after}
use Rattle.job_rules.specs.Chosen.{fits}
use Rattle.job_rules.proofs.FirstInRank.{earliest}
use Rattle.job_rules.proofs.choice.first_that_fits.Given as goal

abbrev pub invariant-loop-job : goal.invariant-loop-job
invariant-loop-job l =
    earliest (λ v. is_after l.last v && fits l.kept v) (drop l.job-index l.jobs) l.first
    ≡ earliest (λ v. is_after l.last v && fits l.kept v) l.jobs None
