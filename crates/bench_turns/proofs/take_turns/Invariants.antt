use Rattle.std.proofs.Common.{◌≡◌}
use Rattle.turn_cell.specs.Seats.{IsIdleOf, cell_view, seat_view}
use Rattle.bench_turns.proofs.take_turns.Given as goal

abbrev pub invariant-loop-turn : goal.invariant-loop-turn
invariant-loop-turn g l = record {
  idle : IsIdleOf (cell_view l.cell) (seat_view l.seat);
  number : (seat_view l.seat).number ≡ (seat_view l.initial.seat).number;
}
