use Rattle.turn_cell.proofs.SeatLists.{AreNewFrom-idle}
use Rattle.turn_cell_tests.proofs.tests.seats_and_turns.Goals as goal

pub close-requires : goal.close-requires
close-requires c = let made = c.in_ok-cell.ensures.1.3 in record { seats = (made.0, AreNewFrom-idle _ _ _ _ made.1) }
