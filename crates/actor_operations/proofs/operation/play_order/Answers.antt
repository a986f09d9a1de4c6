use Rattle.std.proofs.Common.{◌∙◌, ap, subst, sym}
use Rattle.turn_cell.specs.Seats.{CellView}
use Rattle.fabric.specs.Views.{fabric_view}
use Rattle.actor_operations.specs.Operations.{BoardTells}
use Rattle.actor_operations.specs.Stops.{Ended}
use Rattle.actor_operations.proofs.BoardOrders.{order_tells}
use Rattle.actor_operations.proofs.operation.play_order.Goals as goal

pub returns-clause-tells : goal.returns-clause-tells
returns-clause-tells g c =
    subst
    (λ (ended : Ended). BoardTells ended (fabric_view c.args.desk.now.fabric.now) c.args.order c.args.desk.now.by c.args.desk.now.hand.now c.give_order-answer.new.desk.hand.now)
    (sym c.after_order.ensures)
    (order_tells (fabric_view c.args.desk.now.fabric.now) c.args.order c.args.desk.now.by c.args.desk.now.hand.now c.give_order-answer.new.desk.hand.now
    (ap (λ (cell : CellView). cell.seats) c.requires.hand.board.0 ∙ c.requires.one) c.give_order-answer.ensures.held c.give_order-answer.result c.give_order-answer.ensures.turn)
