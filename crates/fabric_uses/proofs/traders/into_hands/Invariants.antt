use Rattle.std.proofs.Common.{◌≡◌}
use Rattle.std.specs.Prelude.{vec_capacity}
use Rattle.fabric_uses.proofs.TraderHands.{HandsTaken}
use Rattle.fabric_uses.proofs.traders.into_hands.Given as goal

abbrev pub invariant-loop-trader : goal.invariant-loop-trader
invariant-loop-trader g l =
    HandsTaken l.fn.traders.items l.trader-iterator.rest.items l.hands.items l.all
    × (vec_capacity l.hands ≡ vec_capacity l.fn.hands)
