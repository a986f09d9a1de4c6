use Rattle.std.proofs.Common.{length}
use Rattle.map_switches.proofs.repaired_units.+push_added.Given as goal

abbrev pub decreases-push_added : goal.decreases-push_added
decreases-push_added g l = length l.units.now
