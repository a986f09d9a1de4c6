-- The hand has looked at the board, and is the fabric's still.
use Rattle.std.proofs.Common.{ℕ, refl, sym, ap, subst}
use Rattle.board.specs.Views.{Sees}
use Rattle.domains.specs.Shape.{Shape}
use Rattle.turn_cell.specs.Seats.{CellView, IsIdleOf, seat_view}
use Rattle.fabric.specs.Views.{fabric_view, number_of}
use Rattle.fabric.proofs.HandAtBoard.{IsHandOf-board}
use Rattle.file_turns.proofs.board_look.look_at_board.Goals as goal

pub view-requires : goal.view-requires
view-requires g c = subst (λ (b : CellView). IsIdleOf b (seat_view c.args.hand.now.board)) (sym c.board.ensures) c.requires.board

pub returns-clause-hand : goal.returns-clause-hand
returns-clause-hand g c =
    IsHandOf-board (fabric_view c.args.fabric.now) c.args.hand.now c.view.new.seat c.requires
    (subst (λ (b : CellView). IsIdleOf b (seat_view c.view.new.seat)) c.board.ensures c.view.ensures.idle) c.view.ensures.number
    (ap (λ (p : Shape × ℕ). p.0) c.view.ensures.sees.follows.fixed)

pub returns-clause-sees : goal.returns-clause-sees
returns-clause-sees g c = record {
  seat = c.view.new.seat;
  only = refl;
  later = c.view.ensures.at_least;
  sees = subst
      (λ (b : CellView). Sees b.seats (number_of c.args.hand.now) (seat_view c.args.hand.now.board).last (seat_view c.view.new.seat).last c.view.result)
      c.board.ensures c.view.ensures.sees;
}
