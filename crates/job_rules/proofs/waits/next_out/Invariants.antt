use Rattle.std.proofs.Common.{◌≡◌, ◌&&◌, drop, None}
use Rattle.job_rules.specs.Rank.{is_after}
use Rattle.job_rules.specs.Why.{is_other_out}
use Rattle.job_rules.proofs.FirstInRank.{earliest}
use Rattle.job_rules.proofs.waits.next_out.Given as goal

abbrev pub invariant-loop-job : goal.invariant-loop-job
invariant-loop-job l =
    earliest (λ v. is_after l.last v && is_other_out l.own v) (drop l.job-index l.jobs) l.first
    ≡ earliest (λ v. is_after l.last v && is_other_out l.own v) l.jobs None
