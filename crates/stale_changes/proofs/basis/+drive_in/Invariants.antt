use Rattle.std.proofs.Common.{length}
use Rattle.stale_changes.proofs.basis.+drive_in.Given as goal

abbrev pub decreases-drive_in : goal.decreases-drive_in
decreases-drive_in l = length l.places.now
