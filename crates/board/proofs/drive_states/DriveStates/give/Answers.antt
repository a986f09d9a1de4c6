use Rattle.std.proofs.Common.{◌∙◌, refl, ap, sym, subst}
use Rattle.board_history.specs.Board.{IsWithin, after_order, effect_of, lowered, raised}
use Rattle.board_history.specs.declared.entry.Order.{Order}
use Rattle.board_history.specs.declared.entry.State.TheVariants.{Gone}
use Rattle.board.proofs.StatesAfterOrder.{states_one, states_node, effect_node}
use Rattle.board.proofs.drive_states.DriveStates.give.Goals as goal

pub returns-in-Fail-clause-states : goal.returns-in-Fail-clause-states
returns-in-Fail-clause-states c log entry is states =
    let e = c.put.ensures in
    let order = is ∙ c.in-Fail.is in
    let within = subst (IsWithin c.args.shape) c.in-Fail.is c.requires.within in
    states_one c.args.shape log entry c.in-Fail.drive (λ was. Gone) c.args.self.now c.put.new.self Gone
    (λ d was. ap (λ (o : Order). after_order o d was) order) e.within within states refl e.up e.gone

pub returns-in-FailNode-clause-effect : goal.returns-in-FailNode-clause-effect
returns-in-FailNode-clause-effect c log states =
    let within = subst (IsWithin c.args.shape) c.in-FailNode.is c.requires.within in
    c.lose.ensures.effect ∙ effect_node c.args.shape log c.in-FailNode.node c.args.self.now within.0 within.1 c.lose.ensures.cluster states
    ∙ sym (ap (effect_of c.args.shape log) c.in-FailNode.is)

pub returns-in-FailNode-clause-states : goal.returns-in-FailNode-clause-states
returns-in-FailNode-clause-states c log entry is states =
    let within = subst (IsWithin c.args.shape) c.in-FailNode.is c.requires.within in
    states_node c.args.shape log entry c.in-FailNode.node c.args.self.now c.lose.new.self (is ∙ c.in-FailNode.is) within.1 states
    c.lose.ensures.up c.lose.ensures.gone

pub returns-in-Down-clause-states : goal.returns-in-Down-clause-states
returns-in-Down-clause-states c log entry is states =
    let e = c.put-in-Down.ensures in
    let order = is ∙ c.in-Down.is in
    let within = subst (IsWithin c.args.shape) c.in-Down.is c.requires.within in
    states_one c.args.shape log entry c.in-Down.drive lowered c.args.self.now c.put-in-Down.new.self c.lowered.result
    (λ d was. ap (λ (o : Order). after_order o d was) order) e.within within states (c.lowered.ensures ∙ ap lowered c.of.ensures.value) e.up e.gone

pub returns-in-Up-clause-states : goal.returns-in-Up-clause-states
returns-in-Up-clause-states c log entry is states =
    let e = c.put-in-Up.ensures in
    let order = is ∙ c.in-Up.is in
    let within = subst (IsWithin c.args.shape) c.in-Up.is c.requires.within in
    states_one c.args.shape log entry c.in-Up.drive raised c.args.self.now c.put-in-Up.new.self c.raised.result
    (λ d was. ap (λ (o : Order). after_order o d was) order) e.within within states (c.raised.ensures ∙ ap raised c.of-in-Up.ensures.value) e.up e.gone
