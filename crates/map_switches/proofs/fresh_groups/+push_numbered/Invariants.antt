use Rattle.std.proofs.Common.{length}
use Rattle.map_switches.proofs.fresh_groups.+push_numbered.Given as goal

abbrev pub decreases-push_numbered : goal.decreases-push_numbered
decreases-push_numbered g l = length l.stripes.now
