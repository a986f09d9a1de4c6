use Rattle.std.proofs.Common.{length}
use Rattle.map_switches.proofs.held_places.+none_there.Given as goal

abbrev pub decreases-none_there : goal.decreases-none_there
decreases-none_there l = length l.places.now
