use Rattle.std.proofs.Common.{length}
use Rattle.map_switches.proofs.fresh_groups.+push_group_places.Given as goal

abbrev pub decreases-push_group_places : goal.decreases-push_group_places
decreases-push_group_places g l = length l.stripes.now
