use Rattle.std.proofs.Common.{◌≡◌, drop, None}
use Rattle.engine_core.specs.Outs.{lowest_out}
use Rattle.engine_core.proofs.outs.lowest_out.Given as goal

abbrev pub invariant-loop-job : goal.invariant-loop-job
invariant-loop-job l = lowest_out (drop l.job-index l.jobs) l.lowest ≡ lowest_out l.jobs None
