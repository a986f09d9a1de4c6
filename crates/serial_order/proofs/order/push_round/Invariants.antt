use Rattle.std.proofs.Common.{◌≡◌, ◌+◌, ◌++◌, length, drop, map}
use Rattle.serial_order.specs.SerialOrder.{round_of}
use Rattle.serial_order.proofs.order.push_round.Given as goal

abbrev pub invariant-loop-script : goal.invariant-loop-script
invariant-loop-script g l =
    (l.order.items ++ round_of (map length (drop l.script-index l.scripts)) (l.actor + 1) l.call ≡ l.fn.order.items ++ round_of (map length l.scripts) 1 l.call)
    × (l.actor ≡ l.script-index)
