use Rattle.std.proofs.Common.{◌≡◌}
use Rattle.fabric.specs.Accounts.{Stays}
use Rattle.fabric.specs.Views.{IsHandOf, fabric_view, number_of}
use Rattle.fabric_uses.proofs.trade.trade_node.Given as goal

abbrev pub invariant-loop-drive : goal.invariant-loop-drive
invariant-loop-drive g l =
    IsHandOf (fabric_view l.fabric) l.hand × (number_of l.hand ≡ number_of l.fn.hand) × Stays (fabric_view l.fabric).shape l.fn.hand l.hand
