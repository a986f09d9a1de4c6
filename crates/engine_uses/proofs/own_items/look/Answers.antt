use Rattle.std.proofs.Common.{rules, ◌∙◌, refl}
use Rattle.turn_cell.specs.Seats.{seat_view, taken, turn_seat}
use Rattle.engine_core.specs.EngineTurns.{HasBegun, IsUntouched}
use Rattle.engine_core.proofs.EngineTurns.{changes_none}
use Rattle.engine_uses.proofs.ItemsOverTurns.{EngineTurned, has_left, looks, turn_within, untouched}
use Rattle.engine_uses.proofs.own_items.look.Given.{Over}
use Rattle.engine_uses.proofs.own_items.look.Goals as goal

pub leave-requires-clause-changed : goal.leave-requires-clause-changed
leave-requires-clause-changed g c =
    let state = c.state.result.now in
    turn_within (seat_view c.args.seat.now) (turn_seat c.enter-turn.result) (taken c.enter-turn.result) state _ c.enter-turn.ensures.entered.seat (c.state.ensures.value ∙ c.enter-turn.ensures.entered.begins) (changes_none state.log.seat state)

turned : (g : Over) (c : goal.After-seat-1 g) → EngineTurned (seat_view c.args.seat.now) (seat_view c.leave.new.self.1.0) (taken c.enter-turn.result) c.state.result.now c.state.result.now
turned g c = record {
  follows = c.enter-turn.ensures.entered.follows;
  begins = c.state.ensures.value ∙ c.enter-turn.ensures.entered.begins;
  leaves = has_left (seat_view c.args.seat.now) (turn_seat c.enter-turn.result) _ _ _ c.enter-turn.ensures.entered.seat c.leave.ensures.left;
}

pub returns-clause-begun : goal.returns-clause-begun
returns-clause-begun g c =
    let done : HasBegun (seat_view c.leave.new.self.1.0).number (seat_view c.leave.new.self.1.0).last c.args.work.now.job c.args.work.now.item =
    looks _ _ _ _ _ (turned g c) c.args.work.now.job c.args.work.now.item refl c.requires.begun in
    search rules

pub returns-clause-untouched : goal.returns-clause-untouched
returns-clause-untouched g c =
    let done : IsUntouched (seat_view c.args.seat.now).last (seat_view c.leave.new.self.1.0).last c.args.work.now.job c.args.work.now.item =
    untouched _ _ _ _ _ (turned g c) c.args.work.now.job c.args.work.now.item refl c.entries-entries.ensures.engine c.requires.begun in
    search rules
