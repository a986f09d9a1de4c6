use Rattle.std.proofs.Common.{length}
use Rattle.map_switches.proofs.held_places.+none_marked.Given as goal

abbrev pub decreases-none_marked : goal.decreases-none_marked
decreases-none_marked g l = length l.stripes.now
