use Rattle.std.proofs.Common.{◌≡◌}
use Rattle.turn_cell.specs.Seats.{IsIdleOf, cell_view, seat_view}
use Rattle.board.proofs.views.wait_past.Given as goal

abbrev pub invariant-loop : goal.invariant-loop
invariant-loop g l = record {
  idle : IsIdleOf (cell_view l.cell) (seat_view l.seat);
  number : (seat_view l.seat).number ≡ (seat_view l.initial.seat).number;
  last : (seat_view l.seat).last ≡ (seat_view l.initial.seat).last;
}
