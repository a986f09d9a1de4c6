-- What a crate above sees of a cell, its seats and a turn.
use Rattle.std.specs.Prelude.{◌≡◌, ℕ, suc, ◌+◌, ◌<◌, ◌≤◌, ◌^◌, Bool, true, false, ◌&&◌, List, [], ◌∷◌, ◌++◌, map, length, Option, None}
use mathlib.Core.List.{IsPrefix}
use Rattle.atomic_table.specs.Table.{Me}
use Rattle.atomic_table.specs.Seated.{TableId}
use Rattle.turn_cell.specs.declared.cell.TurnCell.{TurnCell}
use Rattle.turn_cell.specs.declared.chronicle.Note.{Note}
use Rattle.turn_cell.specs.declared.seat.Seat.{Seat}
use Rattle.turn_cell.specs.declared.turn.Turn.{Turn}
use Rattle.turn_cell.specs.declared.view.Hold.TheVariants.{Free, Waits, Has}
use Rattle.turn_cell.specs.declared.view.Known.{Known}
use Rattle.turn_cell.specs.declared.view.View.{View}
use Rattle.turn_cell.specs.declared.view.View.TheVariants.{Active}
use Rattle.turn_cell.specs.Notes.{notes_by, AreBelow, AreZeros}
use Rattle.turn_cell.specs.Histories.{Follows}
use Rattle.turn_cell.specs.StepOutcomes.{Finds}
use Rattle.turn_cell.specs.CellRule.{dealing}
use Rattle.turn_cell.specs.Views.{IsActive, known_in, is_free, found_in, with_hold}

-- which cell it is, and how many seats it has
pub record CellView : Type 0 where
  pub name : TableId
  pub seats : ℕ

-- the cell of a seat, its number, whether it is in no turn, how many turns it knows to have passed, and the state that its last turn left
pub record SeatView (S : Type 0) : Type 0 where
  pub cell : CellView
  pub number : ℕ
  pub idle : Bool
  pub turns : ℕ
  pub last : S

module _ {S : Type 0} where
  abbrev pub is_empty : List (ℕ × Option S) → Bool
  is_empty [] = true
  is_empty (x ∷ xs) = false

  abbrev pub view_of : TableId → ℕ → (me : Me (Option S) (View S)) → IsActive me.0 → SeatView S
  view_of name number me active =
      let v = known_in me.0 active in
      record { cell = record { name = name; seats = v.seats }; number = number; idle = is_free v.hold && is_empty me.1; turns = v.turns; last = v.last }

  abbrev pub seat_view : Seat S → SeatView S
  seat_view seat = view_of seat.token.table_id seat.number seat.token.me seat.active

  -- what the seat knows
  abbrev pub known : Seat S → Known S
  known seat = known_in seat.token.me.0 seat.active

  -- the value that the seat's turn found, and out of a turn its last state
  abbrev pub found_of : Seat S → S
  found_of seat = found_in (known seat) (known seat).hold

  -- it has no ticket and no value
  abbrev pub IsIdle : Seat S → Type 0
  IsIdle seat = ((known seat).hold ≡ Free) × (seat.token.me.1 ≡ [])

  -- it has this ticket and no value
  abbrev pub IsWaiting : Seat S → ℕ → Type 0
  IsWaiting seat ticket = ((known seat).hold ≡ Waits ticket) × (seat.token.me.1 ≡ [])

  abbrev pub IsSame : Seat S → Seat S → Type 0
  IsSame old new = (new.token.table_id ≡ old.token.table_id) × (new.number ≡ old.number)

  -- the seats, each with its last state
  abbrev pub last_states : List (Seat S) → List (ℕ × S)
  last_states seats = map (λ seat. ((known seat).number, (known seat).last)) seats

  -- the seat is one of this cell, and in no turn
  abbrev pub IsIdleOf : CellView → SeatView S → Type 0
  IsIdleOf cell seat = (seat.cell ≡ cell) × (seat.idle ≡ true)

  abbrev pub in_turn : SeatView S → SeatView S
  in_turn seat = record seat { idle = false }

  -- the seat, once it knows that this many turns have passed
  abbrev pub seeing : SeatView S → ℕ → SeatView S
  seeing seat turns = record seat { turns = turns }

  -- the seat after a turn, which has left this state
  abbrev pub left : SeatView S → ℕ → S → SeatView S
  left seat turns state = record seat { idle = true; turns = turns; last = state }

  abbrev pub new_seat : CellView → S → ℕ → SeatView S
  new_seat cell state number = record { cell = cell; number = number; idle = true; turns = 0; last = state }

  -- new seats of the cell, numbered from here on
  abbrev pub AreNewFrom : CellView → S → ℕ → List (Seat S) → Type 0
  AreNewFrom cell state number [] = Unit {0}
  AreNewFrom cell state number (seat ∷ seats) = (seat_view seat ≡ new_seat cell state number) × AreNewFrom cell state (suc number) seats

  -- all seats of a new cell, in the order of their numbers
  abbrev pub AreNewSeats : CellView → S → List (Seat S) → Type 0
  AreNewSeats cell state seats = (length seats ≡ cell.seats) × AreNewFrom cell state 0 seats

  -- seats of the cell in no turn, numbered from here on
  abbrev pub AreIdleFrom : CellView → ℕ → List (Seat S) → Type 0
  AreIdleFrom cell number [] = Unit {0}
  AreIdleFrom cell number (seat ∷ seats) = IsIdleOf cell (seat_view seat) × ((seat_view seat).number ≡ number) × AreIdleFrom cell (suc number) seats

  -- all seats of the cell, in the order of their numbers and in no turn
  abbrev pub AreSeatsOf : CellView → List (Seat S) → Type 0
  AreSeatsOf cell seats = (length seats ≡ cell.seats) × AreIdleFrom cell 0 seats

module _ {S E F : Type 0} where
  abbrev pub cell_view : TurnCell S E F → CellView
  cell_view cell = record { name = cell.table.shared.table_id; seats = cell.table.shared.key.seats }

  abbrev pub first_state : TurnCell S E F → S
  first_state cell = cell.table.shared.key.state.value

  abbrev pub IsOwn : TurnCell S E F → Seat S → Type 0
  IsOwn cell seat = seat.token.table_id ≡ cell.table.shared.table_id

  -- seat 0, once it has made seats up to this number
  abbrev pub IsDealer : TurnCell S E F → Seat S → ℕ → Type 0
  IsDealer cell seat dealt = seat.token.me ≡ (dealing dealt (cell_view cell).seats (first_state cell), [])

  -- the state that the turn found
  abbrev pub taken : Turn S E F → S
  taken turn = found_of turn.seat.now

  -- the state that the turn has
  abbrev pub state_of : Turn S E F → S
  state_of turn = turn.state

  -- the turn, once its state is this one
  abbrev pub with_state : Turn S E F → S → Turn S E F
  with_state turn state = record turn { state = state }

  -- the seat of a turn
  abbrev pub turn_seat : Turn S E F → SeatView S
  turn_seat turn = seat_view turn.seat.now

module _ {S E F : Type 0} (turns_of : S → ℕ) (notes_of : S → List (Note E)) (tally_of : S → ℕ → List ℕ) (fixed_of : S → F) where
  -- the seat knows v, has the value x at this ticket, and its slot is empty
  abbrev pub Takes : Known S → ℕ → S → Seat S → Type 0
  Takes v ticket x seat = (seat.token.me ≡ (Active (with_hold v (Has ticket x)), (0, None) ∷ [])) × Finds turns_of notes_of tally_of fixed_of v ticket x

  -- the seat is in the turn of this ticket
  pub record HasTurn (cell : TurnCell S E F) (seat : Seat S) (ticket : ℕ) : Type 0 where
    pub own : IsOwn cell seat
    pub takes : Takes (known seat) ticket (found_of seat) seat
    pub room : ticket + 1 < 2 ^ 64

  -- the turn is that of its seat
  abbrev pub InTurn : Turn S E F → Type 0
  InTurn turn = HasTurn turn.cell.now turn.seat.now turn.ticket

  -- what a turn tells at its start: the seat was in no turn, and the state that it found is x
  pub record Enters (begun : S → ℕ → S) (before after : SeatView S) (x state : S) : Type 0 where
    pub within : before.number < before.cell.seats
    pub few : before.number < 32
    pub turns : before.turns ≤ turns_of x
    pub follows : Follows turns_of notes_of tally_of fixed_of before.number before.last x
    pub below : AreBelow before.cell.seats (notes_of x)
    pub lone : before.cell.seats ≡ 1 → x ≡ before.last
    pub begins : state ≡ begun x before.number
    pub seat : after ≡ in_turn before

  -- what a turn tells at its end: it found x and left y, and the notes that it added are the last of the seat's and the last of all
  pub record Grows (seat : ℕ) (last x y : S) : Type 0 where
    pub follows : Follows turns_of notes_of tally_of fixed_of seat last x
    pub seen : IsPrefix (notes_of last) (notes_of y)
    pub mine : (more : List (Note E)) → notes_of y ≡ notes_of x ++ more → notes_by seat (notes_of y) ≡ notes_by seat (notes_of last) ++ more
    pub fixed : fixed_of y ≡ fixed_of last

  -- the state follows the last state of each seat, numbered from here on
  abbrev pub FollowsEach : S → ℕ → List (Seat S) → Type 0
  FollowsEach state number [] = Unit {0}
  FollowsEach state number (seat ∷ seats) =
      Follows turns_of notes_of tally_of fixed_of number (seat_view seat).last state × FollowsEach state (suc number) seats

  -- the state of a closed cell: it follows each seat's last state, each note is a seat's, any other number has a tally of zeros, and
  -- a single seat left it in its last turn
  pub record Closes (seats : List (Seat S)) (state : S) : Type 0 where
    pub follows : FollowsEach state 0 seats
    pub below : AreBelow (length seats) (notes_of state)
    pub zeros : (number : ℕ) → length seats ≤ number → AreZeros (tally_of state number)
    pub lone : (seat : Seat S) → seats ≡ seat ∷ [] → state ≡ (seat_view seat).last
