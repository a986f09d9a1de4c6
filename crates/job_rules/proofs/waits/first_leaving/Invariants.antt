use Rattle.std.proofs.Common.{◌≡◌, drop, None}
use Rattle.job_rules.specs.Why.{is_leaving}
use Rattle.job_rules.proofs.FirstInRank.{earliest}
use Rattle.job_rules.proofs.waits.first_leaving.Given as goal

abbrev pub invariant-loop-job : goal.invariant-loop-job
invariant-loop-job l = earliest (is_leaving l.own l.kept) (drop l.job-index l.jobs) l.first ≡ earliest (is_leaving l.own l.kept) l.jobs None
