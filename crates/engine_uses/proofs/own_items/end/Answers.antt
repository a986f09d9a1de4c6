use Rattle.std.proofs.Common.{rules, ◌∙◌}
use Rattle.turn_cell.specs.Seats.{seat_view, taken, turn_seat}
use Rattle.engine_uses.specs.ItemTurns.{EndsItem}
use Rattle.engine_uses.proofs.ItemsOverTurns.{EngineTurned, ends_exact, has_left, none_else_found, out_found, turn_within}
use Rattle.engine_uses.proofs.own_items.end.Given.{Over}
use Rattle.engine_uses.proofs.own_items.end.Goals as goal

pub end_in-ended-requires-clause-own : goal.end_in-ended-requires-clause-own
end_in-ended-requires-clause-own g c =
    none_else_found (seat_view c.args.seat.now).number (seat_view c.args.seat.now).last (taken c.enter-turn.result) c.state-engine.result.now c.args.work.now.job c.args.work.now.item
    c.enter-turn.ensures.entered.follows (c.state-engine.ensures.value ∙ c.enter-turn.ensures.entered.begins) c.requires.begun

pub end_in-ended-requires-clause-out : goal.end_in-ended-requires-clause-out
end_in-ended-requires-clause-out g c =
    out_found (seat_view c.args.seat.now).number (seat_view c.args.seat.now).last (taken c.enter-turn.result) c.state-engine.result.now c.args.work.now.job c.args.work.now.item
    c.enter-turn.ensures.entered.follows (c.state-engine.ensures.value ∙ c.enter-turn.ensures.entered.begins) c.entries-entries.ensures.engine c.requires.begun

pub leave-requires-clause-changed : goal.leave-requires-clause-changed
leave-requires-clause-changed g c =
    turn_within (seat_view c.args.seat.now) (turn_seat c.enter-turn.result) (taken c.enter-turn.result) c.state-engine.result.now _ c.enter-turn.ensures.entered.seat (c.state-engine.ensures.value ∙ c.enter-turn.ensures.entered.begins)
    c.end_in-ended.ensures.changed

turned : (g : Over) (c : goal.After-seat-1 g) → EngineTurned (seat_view c.args.seat.now) (seat_view c.leave.new.self.1.0) (taken c.enter-turn.result) c.state-engine.result.now c.end_in-ended.new.engine
turned g c = record {
  follows = c.enter-turn.ensures.entered.follows;
  begins = c.state-engine.ensures.value ∙ c.enter-turn.ensures.entered.begins;
  leaves = has_left (seat_view c.args.seat.now) (turn_seat c.enter-turn.result) _ _ _ c.enter-turn.ensures.entered.seat c.leave.ensures.left;
}

pub returns-clause-exact : goal.returns-clause-exact
returns-clause-exact g c =
    let done : EndsItem (seat_view c.args.seat.now) (seat_view c.leave.new.self.1.0) c.args.by c.args.work.now.job c.args.work.now.item c.args.end c.end_in-ended.result =
    ends_exact _ _ _ _ _ (turned g c) c.args.by c.args.work.now.job c.args.work.now.item c.args.end c.end_in-ended.result c.entries-entries.ensures.engine c.requires.begun c.end_in-ended.ensures.ended in
    search rules
