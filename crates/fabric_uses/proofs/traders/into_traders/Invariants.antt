use Rattle.std.proofs.Common.{◌≡◌, ◌++◌, map}
use Rattle.std.specs.Prelude.{vec_capacity}
use Rattle.fabric_uses.proofs.traders.into_traders.Given as goal

abbrev pub invariant-loop-hand : goal.invariant-loop-hand
invariant-loop-hand g l =
    (map (λ trader. trader.hand) l.traders.items ++ l.hand-iterator.rest.items ≡ l.fn.hands)
    × (vec_capacity l.traders ≡ vec_capacity l.fn.traders)
