use Rattle.std.proofs.Common.{◌≡◌, drop}
use Rattle.job_rules.specs.Chosen.{has_job}
use Rattle.job_rules.specs.Why.{view_of}
use Rattle.job_rules.proofs.waits.view_of.Given as goal

abbrev pub invariant-loop-view : goal.invariant-loop-view
invariant-loop-view l = record {
  left : view_of l.job (drop l.view-index l.jobs) ≡ view_of l.job l.jobs;
  known : has_job l.job (drop l.view-index l.jobs) ≡ has_job l.job l.jobs;
}
