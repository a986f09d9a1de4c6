use Rattle.std.proofs.Common.{◌≡◌}
use Rattle.std.specs.Prelude.{vec_capacity}
use Rattle.fabric.specs.NewFabric.{DealsSeat}
use Rattle.fabric.proofs.SeatsDealt.{AreLeft}
use Rattle.fabric.proofs.new_pool.deal_seats.Given as goal

abbrev pub invariant-loop-seat : goal.invariant-loop-seat
invariant-loop-seat g l =
    AreLeft DealsSeat l.fn.seats.items l.seats.items l.fn.hands.items l.hands.items
    × (vec_capacity l.seats ≡ vec_capacity l.fn.seats)

abbrev pub decreases-loop-seat : goal.decreases-loop-seat
decreases-loop-seat g l = goal.left-loop-seat g l
