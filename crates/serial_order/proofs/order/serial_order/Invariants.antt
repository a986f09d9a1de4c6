use Rattle.std.proofs.Common.{◌≡◌, length, map}
use Rattle.serial_order.specs.SerialOrder.{rounds}
use Rattle.serial_order.proofs.order.serial_order.Given as goal

abbrev pub invariant-loop-round : goal.invariant-loop-round
invariant-loop-round g l = l.order.items ≡ rounds l.round (map length l.scripts)
