use Rattle.std.proofs.Common.{◌≡◌}
use Rattle.turn_cell.specs.Seats.{IsIdleOf, cell_view, seat_view}
use Rattle.board.specs.Examples.{small_shape}
use Rattle.board_tests.proofs.tests.race.give_all.Given as goal

abbrev pub invariant-loop-given : goal.invariant-loop-given
invariant-loop-given g l = record {
  idle : IsIdleOf (cell_view l.cell) (seat_view l.seat);
  number : (seat_view l.seat).number ≡ (seat_view l.initial.seat).number;
  shape : (seat_view l.seat).last.shape ≡ small_shape;
}
