use Rattle.std.proofs.Common.{length}
use Rattle.map_switches.proofs.fresh_groups.+push_copies.Given as goal

abbrev pub decreases-push_copies : goal.decreases-push_copies
decreases-push_copies l = length l.copied.now
