use Rattle.std.proofs.Common.{◌≡◌}
use Rattle.fabric.specs.Accounts.{Stays}
use Rattle.fabric.specs.Views.{IsHandOf, fabric_view, number_of}
use Rattle.fabric_uses.proofs.trade.trade_each.Given as goal

abbrev pub invariant-loop-node : goal.invariant-loop-node
invariant-loop-node g l =
    IsHandOf (fabric_view l.fabric) l.hand × (number_of l.hand ≡ number_of l.fn.hand) × Stays (fabric_view l.fabric).shape l.fn.hand l.hand
