use Rattle.std.proofs.Common.{length}
use Rattle.stale_changes.proofs.basis.+replaced_by.Given as goal

abbrev pub decreases-replaced_by : goal.decreases-replaced_by
decreases-replaced_by l = length l.generations.now
