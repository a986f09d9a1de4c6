use Rattle.std.proofs.Common.{rules, ◌≡◌, ℕ, sym, ap, subst, ◌∙◌}
use Rattle.board.specs.History.{History}
use Rattle.board_history.specs.Board.{IsWithin}
use Rattle.domains.specs.Shape.{Shape}
use Rattle.turn_cell.specs.Seats.{SeatView, seat_view, taken, turn_seat}
use Rattle.drive_orders.specs.Orders.{BoardTurn, OrderTells}
use Rattle.drive_orders.proofs.BoardTurns.{board_turn, shape_found, turn_within}
use Rattle.drive_orders.proofs.order.order_at.Goals as goal

pub order_in-given-requires : goal.order_in-given-requires
order_in-given-requires g c =
    subst (λ (s : Shape). IsWithin s c.args.order)
    (sym (shape_found (seat_view c.args.seat.now) (turn_seat c.enter-turn.result) (taken c.enter-turn.result) _ c.state.result.now c.enter-turn.ensures.entered c.state.ensures.value))
    c.requires.within

pub leave-requires-clause-changed : goal.leave-requires-clause-changed
leave-requires-clause-changed g c =
    turn_within c.order_in-given.result c.args.by c.args.order (seat_view c.args.seat.now) (turn_seat c.enter-turn.result) (taken c.enter-turn.result) _ c.state.result.now c.order_in-given.new.board
    c.enter-turn.ensures.entered c.state.ensures.value c.order_in-given.ensures

pub returns-clause-turn : goal.returns-clause-turn
returns-clause-turn g c =
    let done : BoardTurn (OrderTells c.order_in-given.result c.args.by c.args.order) (seat_view c.args.seat.now) (seat_view c.leave.new.self.1.0) =
    board_turn _ (seat_view c.args.seat.now) (turn_seat c.enter-turn.result) _ (taken c.enter-turn.result) _ c.state.result.now c.order_in-given.new.board
    c.enter-turn.ensures.entered c.state.ensures.value c.order_in-given.ensures c.leave.ensures.left in
    search rules

pub returns-clause-shape : goal.returns-clause-shape
returns-clause-shape g c =
    let shape : (seat_view c.leave.new.self.1.0).last.shape ≡ (seat_view c.args.seat.now).last.shape =
    ap (λ (s : SeatView History). s.last.shape) c.leave.ensures.left ∙ ap (λ (p : Shape × ℕ). p.0) c.leave.ensures.grows.fixed
    ∙ ap (λ (s : SeatView History). s.last.shape) c.enter-turn.ensures.entered.seat in
    search rules
