use Rattle.std.proofs.Common.{◌≡◌, drop}
use Rattle.engine_history.specs.Steps.{due}
use Rattle.engine_core.proofs.items.due.Given as goal

abbrev pub invariant-loop-job : goal.invariant-loop-job
invariant-loop-job l = due (drop l.job-index l.jobs) ≡ due l.jobs
