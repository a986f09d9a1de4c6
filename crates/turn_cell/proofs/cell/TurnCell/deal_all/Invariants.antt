use Rattle.std.proofs.Common.{◌≡◌, ◌+◌, length, vec_capacity}
use Rattle.turn_cell.specs.Seats.{AreNewFrom, IsDealer, IsOwn, cell_view, first_state}
use Rattle.turn_cell.proofs.cell.TurnCell.deal_all.Given as goal

abbrev pub invariant-loop-number : goal.invariant-loop-number
invariant-loop-number g l = record {
  own : IsOwn l.self l.first;
  dealer : IsDealer l.self l.first l.number;
  made : AreNewFrom (cell_view l.self) (first_state l.self) 1 l.room.items;
  count : length l.room.items + 1 ≡ l.number;
  room : vec_capacity l.room ≡ l.seats;
}
