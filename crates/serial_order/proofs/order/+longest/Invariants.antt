use Rattle.std.proofs.Common.{length}
use Rattle.serial_order.proofs.order.+longest.Given as goal

abbrev pub decreases-longest : goal.decreases-longest
decreases-longest g l = length l.scripts.now
