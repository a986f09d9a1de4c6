use Rattle.std.proofs.Common.{length}
use Rattle.map_switches.proofs.map_text.+push_stripes.Given as goal

abbrev pub decreases-push_stripes : goal.decreases-push_stripes
decreases-push_stripes g l = length l.stripes.now
