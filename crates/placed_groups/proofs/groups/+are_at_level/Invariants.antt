use Rattle.std.proofs.Common.{length}
use Rattle.placed_groups.proofs.groups.+are_at_level.Given as goal

abbrev pub decreases-are_at_level : goal.decreases-are_at_level
decreases-are_at_level l = length l.groups.now
