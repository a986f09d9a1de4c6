use Rattle.std.proofs.Common.{rules, ◌∙◌, sym, subst}
use Rattle.std.specs.Prelude.{IfSome}
use Rattle.turn_cell.specs.Seats.{seat_view, taken, turn_seat}
use Rattle.engine_core.specs.EngineTurns.{ChangesEngine, HasBegun}
use Rattle.engine_core.specs.EngineView.{EngineView}
use Rattle.engine_core.proofs.EngineTurns.{changes_begin}
use Rattle.engine_uses.proofs.ItemsOverTurns.{EngineTurned, begins_exact, begins_item, has_left, turn_within}
use Rattle.engine_uses.specs.ItemTurns.{BeginsItem}
use Rattle.engine_uses.proofs.AskedItems.{is_asked}
use Rattle.engine_uses.proofs.own_items.begin.Given.{Over}
use Rattle.engine_uses.proofs.own_items.begin.Goals as goal

pub leave-requires-clause-changed : goal.leave-requires-clause-changed
leave-requires-clause-changed g c =
    let state = c.state.result.now in
    turn_within (seat_view c.args.seat.now) (turn_seat c.enter-turn.result) (taken c.enter-turn.result) state _ c.enter-turn.ensures.entered.seat (c.state.ensures.value ∙ c.enter-turn.ensures.entered.begins)
    (subst (λ (y : EngineView). ChangesEngine state.log.seat state y) (sym c.begin-work.ensures.begun) (changes_begin state c.args.task.now c.args.item c.begin-work.result c.begin-work.ensures.work))

turned : (g : Over) (c : goal.After-seat-1 g) → EngineTurned (seat_view c.args.seat.now) (seat_view c.leave.new.self.1.0) (taken c.enter-turn.result) c.state.result.now c.begin-work.new.self
turned g c = record {
  follows = c.enter-turn.ensures.entered.follows;
  begins = c.state.ensures.value ∙ c.enter-turn.ensures.entered.begins;
  leaves = has_left (seat_view c.args.seat.now) (turn_seat c.enter-turn.result) _ _ _ c.enter-turn.ensures.entered.seat c.leave.ensures.left;
}

pub returns-clause-begun : goal.returns-clause-begun
returns-clause-begun g c =
    let done : IfSome c.begin-work.result (λ work. HasBegun (seat_view c.leave.new.self.1.0).number (seat_view c.leave.new.self.1.0).last work.job work.item) =
    begins_item _ _ _ _ _ (turned g c) c.begin-work.result c.begin-work.ensures.has in
    search rules

pub returns-clause-item : goal.returns-clause-item
returns-clause-item g c = is_asked c.state.result.now c.args.task.now c.args.item c.begin-work.result c.begin-work.ensures.work

pub returns-clause-exact : goal.returns-clause-exact
returns-clause-exact g c =
    let done : BeginsItem (seat_view c.args.seat.now) (seat_view c.leave.new.self.1.0) c.args.task.now c.args.item c.begin-work.result =
    begins_exact _ _ _ _ _ (turned g c) c.args.task.now c.args.item c.begin-work.result c.begin-work.ensures.work c.begin-work.ensures.begun in
    search rules
