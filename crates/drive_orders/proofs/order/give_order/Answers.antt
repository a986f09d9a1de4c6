use Rattle.std.proofs.Common.{refl, sym, subst}
use Rattle.board_history.specs.Board.{IsWithin}
use Rattle.domains.specs.Shape.{Shape}
use Rattle.turn_cell.specs.Seats.{CellView, IsIdleOf, seat_view}
use Rattle.fabric.specs.Views.{fabric_view}
use Rattle.fabric.proofs.HandAtBoard.{IsHandOf-board}
use Rattle.drive_orders.proofs.order.give_order.Goals as goal

pub order_at-requires : goal.order_at-requires
order_at-requires g c = record {
  seat = subst (λ (b : CellView). IsIdleOf b (seat_view c.args.desk.now.hand.now.board)) (sym c.board.ensures) c.requires.hand.board;
  within = subst (λ (s : Shape). IsWithin s c.args.order) (sym c.requires.hand.board_shape) c.requires.within;
}

pub returns-clause-hand : goal.returns-clause-hand
returns-clause-hand g c =
    IsHandOf-board (fabric_view c.args.desk.now.fabric.now) c.args.desk.now.hand.now c.order_at.new.seat c.requires.hand
    (subst (λ (b : CellView). IsIdleOf b (seat_view c.order_at.new.seat)) c.board.ensures c.order_at.ensures.seat) c.order_at.ensures.number c.order_at.ensures.shape

pub returns-clause-turn : goal.returns-clause-turn
returns-clause-turn g c = record { seat = c.order_at.new.seat; only = refl; did = c.order_at.ensures.turn }
