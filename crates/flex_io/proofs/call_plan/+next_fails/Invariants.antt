use Rattle.std.proofs.Common.{length}
use Rattle.flex_io.proofs.call_plan.+next_fails.Given as goal

abbrev pub decreases-next_fails : goal.decreases-next_fails
decreases-next_fails l = length l.plan.now
