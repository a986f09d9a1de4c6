use Rattle.std.proofs.Common.{◌≡◌}
use Rattle.slot_pool.specs.Tallies.{IsEven, tally_at}
use Rattle.turn_cell.specs.Seats.{IsIdleOf, cell_view, seat_view}
use Rattle.slot_pool_tests.proofs.tests.race.trade_all.Given as goal

abbrev pub invariant-loop-done : goal.invariant-loop-done
invariant-loop-done g l = record {
  idle : IsIdleOf (cell_view l.cell) (seat_view l.seat);
  same : (seat_view l.seat).number ≡ (seat_view l.initial.seat).number;
  even : IsEven (tally_at (seat_view l.seat).last.tallies (seat_view l.seat).number);
}
