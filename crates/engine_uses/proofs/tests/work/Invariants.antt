use Rattle.std.proofs.Common.{◌≡◌}
use Rattle.turn_cell.specs.Seats.{IsIdleOf, cell_view, seat_view}
use Rattle.engine_core.specs.EngineTurns.{HasBegun}
use Rattle.engine_uses.proofs.tests.work.Given as goal

abbrev pub invariant-loop-look : goal.invariant-loop-look
invariant-loop-look g l = record {
  idle : IsIdleOf (cell_view l.cell) (seat_view l.seat);
  number : (seat_view l.seat).number ≡ (seat_view l.initial.seat).number;
  begun : HasBegun (seat_view l.seat).number (seat_view l.seat).last l.own.job l.own.item;
}
