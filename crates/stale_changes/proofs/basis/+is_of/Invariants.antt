use Rattle.std.proofs.Common.{length}
use Rattle.stale_changes.proofs.basis.+is_of.Given as goal

abbrev pub decreases-is_of : goal.decreases-is_of
decreases-is_of l = length l.groups.now
