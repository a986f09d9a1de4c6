use Rattle.std.proofs.Common.{length}
use Rattle.entry_causes.proofs.room.+take_out.Given as goal

abbrev pub decreases-take_out : goal.decreases-take_out
decreases-take_out l = length l.drives.now
