-- What an order leaves of the board, where it has one seat.
use Rattle.std.proofs.Common.{◌≡◌, ◌+◌, ◌<◌, [], ◌∷◌, ◌++◌, length, Result, Ok, Err, ap, subst, ◌∙◌}
use Rattle.board.specs.History.{History, log_of}
use Rattle.board.specs.declared.board.Grow.{Grow}
use Rattle.board.specs.declared.board.Grow.TheVariants.{LogFull, NoMemory}
use Rattle.board_history.specs.Board.{IsBoardStep}
use Rattle.board_history.specs.declared.entry.Effect.{Effect}
use Rattle.board_history.specs.declared.entry.Order.{Order}
use Rattle.domains.specs.declared.by.By.{By}
use Rattle.fabric.specs.Accounts.{Stays}
use Rattle.fabric.specs.Cells.{FabricView}
use Rattle.fabric.specs.Views.{number_of}
use Rattle.fabric.specs.declared.hand.Hand.{Hand}
use Rattle.turn_cell.specs.Seats.{SeatView, seat_view}
use Rattle.drive_orders.specs.Orders.{AtBoard, BoardTurn, OrderTells}
use Rattle.actor_operations.specs.Entries.{board_of}
use Rattle.actor_operations.specs.Operations.{BoardTells}
use Rattle.actor_operations.specs.Stops.{after_order}

module _ {S : Type 0} (f : FabricView) (order : Order) (by : By) (old new : Hand S) (one : (seat_view old.board).cell.seats ≡ 1) (held : Stays f.shape old new) where
  pub order_tells : (answer : Result Effect Grow) → AtBoard (BoardTurn (OrderTells answer by order)) old new → BoardTells (after_order answer) f order by old new
  order_tells (Ok effect) at =
      let turn = at.did in
      let found : turn.found ≡ board_of old = turn.lone one in
      record {
        turn = turn.found.turns;
        effect = effect;
        notes = ap (λ (hand : Hand S). (board_of hand).notes) at.only ∙ ap (λ (s : SeatView History). s.last.notes) turn.now ∙ ap (λ (h : History). h.notes) turn.did.noted
            ∙ ap (λ (h : History). h.notes ++ record { turn = turn.found.turns; seat = number_of old; entry = record { by = by; order = order; effect = effect } } ∷ []) found;
        room = ap (λ (hand : Hand S). (board_of hand).room) at.only ∙ ap (λ (s : SeatView History). s.last.room) turn.now ∙ ap (λ (h : History). h.room) turn.did.noted
            ∙ ap (λ (h : History). h.room) found;
        legal = subst (λ (h : History). IsBoardStep h.shape (log_of h) (record { by = by; order = order; effect = effect })) found turn.did.legal;
        held = held;
      }
  order_tells (Err LogFull) at =
      let turn = at.did in
      let found : turn.found ≡ board_of old = turn.lone one in
      record {
        full = subst (λ (h : History). h.room < length h.notes + 1) found turn.did.1;
        notes = ap (λ (hand : Hand S). (board_of hand).notes) at.only ∙ ap (λ (s : SeatView History). s.last.notes) turn.now ∙ ap (λ (h : History). h.notes) turn.did.0
            ∙ ap (λ (h : History). h.notes) found;
        room = ap (λ (hand : Hand S). (board_of hand).room) at.only ∙ ap (λ (s : SeatView History). s.last.room) turn.now ∙ ap (λ (h : History). h.room) turn.did.0
            ∙ ap (λ (h : History). h.room) found;
        held = held;
      }
  order_tells (Err NoMemory) at = tt
