use Rattle.std.proofs.Common.{◌≡◌, drop, []}
use Rattle.engine_core.specs.SavedJobs.{saved_from}
use Rattle.engine_core.proofs.saved.checkpoint_of.Given as goal

abbrev pub invariant-loop-job : goal.invariant-loop-job
invariant-loop-job l = saved_from (drop l.job-index l.jobs) l.saved.items ≡ saved_from l.jobs []
