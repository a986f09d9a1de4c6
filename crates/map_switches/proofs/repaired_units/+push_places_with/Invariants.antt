use Rattle.std.proofs.Common.{length}
use Rattle.map_switches.proofs.repaired_units.+push_places_with.Given as goal

abbrev pub decreases-push_places_with : goal.decreases-push_places_with
decreases-push_places_with g l = length l.old.now
