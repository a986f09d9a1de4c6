use Rattle.std.proofs.Common.{length}
use Rattle.pulled_groups.proofs.pull_groups.+pull_from.Given as goal

abbrev pub decreases-pull_from : goal.decreases-pull_from
decreases-pull_from g l = length l.stripes.now
