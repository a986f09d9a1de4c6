use Rattle.std.proofs.Common.{◌∙◌}
use Rattle.turn_cell.specs.Seats.{seat_view, taken, turn_seat}
use Rattle.engine_uses.proofs.ItemsOverTurns.{turn_within}
use Rattle.engine_uses.proofs.tests.hand_out.Goals as goal

pub leave-requires-clause-changed : goal.leave-requires-clause-changed
leave-requires-clause-changed g c =
    turn_within (seat_view c.args.seat.now) (turn_seat c.enter-turn.result) (taken c.enter-turn.result) c.state.result.now _ c.enter-turn.ensures.entered.seat (c.state.ensures.value ∙ c.enter-turn.ensures.entered.begins) c.hand_out_in-task.ensures
