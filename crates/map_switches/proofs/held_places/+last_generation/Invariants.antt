use Rattle.std.proofs.Common.{length}
use Rattle.map_switches.proofs.held_places.+last_generation.Given as goal

abbrev pub decreases-last_generation : goal.decreases-last_generation
decreases-last_generation g l = length l.stripes.now
