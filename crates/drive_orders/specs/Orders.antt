-- A turn of a hand at the board, and what an order does there.
use Rattle.std.specs.Prelude.{◌≡◌, ℕ, ◌+◌, ◌<◌, ◌≤◌, length, Result, Ok, Err}
use Rattle.board.specs.History.{History, log_of, with_entry}
use Rattle.board.specs.Views.{FollowsBoard}
use Rattle.board.specs.declared.board.Grow.{Grow}
use Rattle.board.specs.declared.board.Grow.TheVariants.{LogFull, NoMemory}
use Rattle.board_history.specs.Board.{IsBoardStep}
use Rattle.board_history.specs.declared.entry.Effect.{Effect}
use Rattle.board_history.specs.declared.entry.Order.{Order}
use Rattle.domains.specs.declared.by.By.{By}
use Rattle.fabric.specs.declared.hand.Hand.{Hand}
use Rattle.turn_cell.specs.declared.seat.Seat.{Seat}
use Rattle.turn_cell.specs.Seats.{SeatView, left, seat_view}

-- the board with memory for n more entries
abbrev pub with_spare : ℕ → History → History
with_spare n x = record x { spare = n }

-- the order is carried out, and noted with what it did
pub record CarriesOut (by : By) (order : Order) (effect : Effect) (x y : History) : Type 0 where
  pub spare : ℕ
  pub noted : y ≡ with_entry (with_spare spare x) (record { by = by; order = order; effect = effect })
  pub legal : IsBoardStep x.shape (log_of x) (record { by = by; order = order; effect = effect })

-- what the answer tells of the board, before and after: a refused order is not noted, and the log is full exactly if it has no room
-- for one entry more
abbrev pub OrderTells : Result Effect Grow → By → Order → History → History → Type 0
OrderTells (Ok effect) by order x y = CarriesOut by order effect x y
OrderTells (Err LogFull) by order x y = (y ≡ with_spare y.spare x) × (x.room < length x.notes + 1)
OrderTells (Err NoMemory) by order x y = (y ≡ with_spare y.spare x) × (length x.notes + 1 ≤ x.room)

-- the seat made one turn, in which it did this with the board that it found; with one seat at the cell, that is what its last turn
-- left
pub record BoardTurn (what : History → History → Type 0) (old new : SeatView History) : Type 0 where
  pub found : History
  pub done : History
  pub turns : old.turns ≤ found.turns
  pub follows : FollowsBoard old.number old.last found
  pub lone : old.cell.seats ≡ 1 → found ≡ old.last
  pub did : what (record found { seat = old.number }) done
  pub now : new ≡ left old (found.turns + 1) (record done { turns = done.turns + 1 })

-- the hand's seat at the board did this, and nothing else of the hand is changed
pub record AtBoard {S : Type 0} (what : SeatView History → SeatView History → Type 0) (old new : Hand S) : Type 0 where
  pub seat : Seat History
  pub only : new ≡ record old { board = seat }
  pub did : what (seat_view old.board) (seat_view seat)
