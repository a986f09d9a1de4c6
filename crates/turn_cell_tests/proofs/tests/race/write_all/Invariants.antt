use Rattle.std.proofs.Common.{◌≡◌}
use Rattle.std.specs.List.{range_with_len}
use Rattle.std.specs.Prelude.{slice_index}
use Rattle.turn_cell.specs.Notes.{entries_by}
use Rattle.turn_cell.specs.Seats.{IsIdleOf, cell_view, seat_view}
use Rattle.turn_cell_tests.proofs.tests.race.write_all.Given as goal

abbrev pub invariant-loop-done : goal.invariant-loop-done
invariant-loop-done g l = record {
  idle : IsIdleOf (cell_view l.cell) (seat_view l.seat);
  same : (seat_view l.seat).number ≡ (seat_view l.initial.seat).number;
  written : entries_by (seat_view l.initial.seat).number (seat_view l.seat).last.notes.items ≡ range_with_len 1 l.done;
  tally : slice_index (seat_view l.seat).last.written (seat_view l.initial.seat).number ≡ l.done;
}
