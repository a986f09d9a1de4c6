use Rattle.std.proofs.Common.{◌≡◌}
use Rattle.fabric.specs.Accounts.{Stays}
use Rattle.fabric.specs.Views.{IsHandOf, fabric_view, number_of}
use Rattle.fabric_uses.proofs.traders.trade_all.Given as goal

abbrev pub invariant-loop-done : goal.invariant-loop-done
invariant-loop-done g l =
    IsHandOf (fabric_view l.fabric) l.trader.hand × (number_of l.trader.hand ≡ number_of l.fn.trader.hand) × Stays (fabric_view l.fabric).shape l.fn.trader.hand l.trader.hand
