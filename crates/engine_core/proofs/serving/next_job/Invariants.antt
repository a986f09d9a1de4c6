use Rattle.std.proofs.Common.{◌≡◌, drop, None}
use Rattle.engine_history.specs.Steps.{is_served}
use Rattle.job_rules.proofs.FirstInRank.{earliest}
use Rattle.engine_core.proofs.serving.next_job.Given as goal

abbrev pub invariant-loop-view : goal.invariant-loop-view
invariant-loop-view l = earliest (is_served l.jobs) (drop l.view-index l.views) l.first ≡ earliest (is_served l.jobs) l.views None
