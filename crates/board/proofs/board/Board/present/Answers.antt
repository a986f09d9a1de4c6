use Rattle.std.proofs.Common.{List, ◌∙◌, sym, subst, rules}
use Rattle.domains.specs.Shape.{Shape}
use Rattle.board_history.specs.declared.entry.BoardEntry.{BoardEntry}
use Rattle.board.specs.Views.{IsViewOf}
use Rattle.board.specs.declared.board_view.View.{View}
use Rattle.board.proofs.BoardFields.{count_inside, log_inside}
use Rattle.board.proofs.ViewLemmas.{shows}
use Rattle.board.proofs.board.Board.present.Goals as goal

pub overflow_cast-result : goal.overflow_cast-result
overflow_cast-result c =
    let within = c.self.invariant.within in
    let small = c.self.invariant.small in
    let len = c.self.inside.entries.ok.0 in
    search rules

pub returns-clause-epoch : goal.returns-clause-epoch
returns-clause-epoch c = c.len.ensures ∙ sym (count_inside c.self.inside c.args.self.now c.self.view_is c.self.invariant.stamped)

pub returns-clause-view : goal.returns-clause-view
returns-clause-view c =
    let inside = c.self.inside in
    let shown : View = record { epoch = c.len.result; up = inside.states.up; gone = inside.states.gone } in
    let log = log_inside inside c.args.self.now c.self.view_is c.self.invariant.stamped in
    subst (λ (x : Shape × List BoardEntry). IsViewOf x.0 x.1 shown) (λ i. ((c.self.view_is i).shape, log i))
    (shows inside.shape inside.entries.items inside.states c.len.result (c.len.ensures ∙ inside.entries.ok.0) c.self.invariant.states)
