use Rattle.std.proofs.Common.{◌≡◌, ◌*◌, length, replicate, vec_capacity}
use Rattle.std.specs.List.{All}
use Rattle.slot_yard.specs.Tallies.{no_counts}
use Rattle.slot_yard.proofs.tallies.new_tallies.Given as goal

abbrev pub invariant-loop-seat : goal.invariant-loop-seat
invariant-loop-seat l = record {
  seats : length l.of_seats.items ≡ l._seat;
  room : vec_capacity l.of_seats ≡ 32;
  none : All (λ tally. tally ≡ replicate (l.nodes * 16) no_counts) l.of_seats.items;
}
