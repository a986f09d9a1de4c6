use Rattle.std.proofs.Common.{◌≡◌, ◌<◌, length}
use Rattle.std.specs.Prelude.{◌⊎◌}
use Rattle.turn_cell.specs.Seats.{IsIdleOf, cell_view, seat_view}
use Rattle.board.specs.Views.{FollowsBoard}
use Rattle.board.proofs.views.view.Given as goal

abbrev pub invariant-loop : goal.invariant-loop
invariant-loop g l = record {
  idle : IsIdleOf (cell_view l.cell) (seat_view l.seat);
  number : (seat_view l.seat).number ≡ (seat_view l.initial.seat).number;
  follows : FollowsBoard (seat_view l.initial.seat).number (seat_view l.initial.seat).last (seat_view l.seat).last;
  lone : (cell_view l.cell).seats ≡ 1 → (seat_view l.seat).last.notes ≡ (seat_view l.initial.seat).last.notes;
  short : ((seat_view l.seat).last ≡ (seat_view l.initial.seat).last) ⊎ (length (seat_view l.seat).last.notes < l.at_least);
}
