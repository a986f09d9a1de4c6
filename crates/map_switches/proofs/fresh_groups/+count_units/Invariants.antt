use Rattle.std.proofs.Common.{length}
use Rattle.map_switches.proofs.fresh_groups.+count_units.Given as goal

abbrev pub decreases-count_units : goal.decreases-count_units
decreases-count_units g l = length l.stripes.now
