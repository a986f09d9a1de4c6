use Rattle.std.proofs.Common.{List, ◌∙◌, sym, subst}
use Rattle.domains.specs.Shape.{Shape}
use Rattle.board_history.specs.Board.{IsLegalBoardLog}
use Rattle.board_history.specs.declared.entry.BoardEntry.{BoardEntry}
use Rattle.board.proofs.BoardFields.{log_inside}
use Rattle.board.proofs.board.Board.close.Goals as goal

pub returns-clause-log : goal.returns-clause-log
returns-clause-log c = c.from_vec.ensures ∙ log_inside c.self.inside c.args.self c.self.view_is c.self.invariant.stamped

pub returns-clause-legal : goal.returns-clause-legal
returns-clause-legal c =
    subst (λ (x : Shape × List BoardEntry). IsLegalBoardLog x.0 x.1) (λ i. ((c.self.view_is i).shape, sym c.from_vec.ensures i)) c.self.invariant.legal
