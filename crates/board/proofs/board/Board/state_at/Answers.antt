use Rattle.std.proofs.Common.{◌≡◌, List, length, take, ◌∙◌, ap, sym, rules}
use Rattle.board_history.specs.Board.{state_after}
use Rattle.board_history.specs.declared.entry.BoardEntry.{BoardEntry}
use Rattle.board.specs.History.{log_of}
use Rattle.board.proofs.BoardFields.{count_inside, log_inside}
use Rattle.board.proofs.board.Board.state_at.Goals as goal

pub slice_bounds-state_after-end : goal.slice_bounds-state_after-end
slice_bounds-state_after-end c =
    let count : length c.args.self.now.notes ≡ length c.deref.result.now =
    count_inside c.self.inside c.args.self.now c.self.view_is c.self.invariant.stamped ∙ sym c.deref.ensures.len in
    let within = c.requires in
    search rules

pub returns : goal.returns
returns c =
    let log : c.deref.result.now ≡ log_of c.args.self.now =
    c.deref.ensures.value ∙ log_inside c.self.inside c.args.self.now c.self.view_is c.self.invariant.stamped in
    c.state_after.ensures ∙ ap (λ (l : List BoardEntry). state_after (take c.args.epoch l) c.args.drive) log
