use Rattle.std.proofs.Common.{length}
use Rattle.placed_groups.proofs.groups.+are_chunks.Given as goal

abbrev pub decreases-are_chunks : goal.decreases-are_chunks
decreases-are_chunks l = length l.groups.now
