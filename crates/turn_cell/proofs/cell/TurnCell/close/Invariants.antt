use Rattle.std.proofs.Common.{◌≡◌, [], ◌++◌, List, vec_len}
use Rattle.turn_cell.specs.declared.seat.Seat.{Seat}
use Rattle.turn_cell.specs.declared.view.View.TheVariants.{Active}
use Rattle.turn_cell.specs.Seats.{IsSame, last_states, known}
use Rattle.turn_cell.proofs.cell.TurnCell.close.Given as goal

abbrev pub invariant-loop-seat : goal.invariant-loop-seat
invariant-loop-seat g l = record {
  gone : List (Seat g.row.S.Denot);
  whole : l.initial.seats.items ≡ l.seats.items ++ gone;
  same : IsSame l.initial.first l.first;
  me : l.first.token.me ≡ (Active (record (known l.initial.first) { joined = last_states gone ++ (known l.initial.first).joined }), []);
}

abbrev pub decreases-loop-seat : goal.decreases-loop-seat
decreases-loop-seat g l = vec_len l.seats
