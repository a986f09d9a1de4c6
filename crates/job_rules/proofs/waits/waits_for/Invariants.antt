use Rattle.std.proofs.Common.{◌≡◌, drop}
use Rattle.job_rules.specs.Why.{kept_before}
use Rattle.job_rules.proofs.waits.waits_for.Given as goal

abbrev pub invariant-loop-other : goal.invariant-loop-other
invariant-loop-other l = kept_before l.own (drop l.other-index l.other-items) ≡ kept_before l.own l.kept
