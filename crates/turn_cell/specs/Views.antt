-- What is read off the view of a seat.
use Rattle.std.specs.Prelude.{ℕ, ◌+◌, Bool, true, false, Option, Some, None}
use Rattle.turn_cell.specs.declared.view.Hold.{Hold}
use Rattle.turn_cell.specs.declared.view.Hold.TheVariants.{Free, Waits, Has}
use Rattle.turn_cell.specs.declared.view.Known.{Known}
use Rattle.turn_cell.specs.declared.view.View.{View}
use Rattle.turn_cell.specs.declared.view.View.TheVariants.{Active, Spent}

module _ {S : Type 0} where
  -- no other seat has taken it in
  abbrev pub IsActive : View S → Type 0
  IsActive (Active v) = Unit {0}
  IsActive Spent = ⊥

  pub IsActive-prop : (v : View S) → IsProp (IsActive v)
  IsActive-prop (Active v) = hlevel
  IsActive-prop Spent = hlevel

  -- what a seat knows that no other has taken in
  abbrev pub known_in : (v : View S) → IsActive v → Known S
  known_in (Active v) h = v
  known_in Spent h = absurd h

  abbrev pub number_in : View S → ℕ
  number_in (Active v) = v.number
  number_in Spent = 0

  abbrev pub is_free : Hold S → Bool
  is_free Free = true
  is_free (Waits t) = false
  is_free (Has t x) = false

  -- the ticket that is held
  abbrev pub ticket_of : Hold S → Option ℕ
  ticket_of Free = None
  ticket_of (Waits t) = Some t
  ticket_of (Has t x) = Some t

  abbrev pub ticket_in : View S → Option ℕ
  ticket_in (Active v) = ticket_of v.hold
  ticket_in Spent = None

  -- the value that its turn found; in no turn, the last state
  abbrev pub found_in : Known S → Hold S → S
  found_in v Free = v.last
  found_in v (Waits t) = v.last
  found_in v (Has t x) = x

  abbrev pub with_hold : Known S → Hold S → Known S
  with_hold v hold = record v { hold = hold }

  -- the seat, once it knows that this many turns have passed
  abbrev pub with_turns : Known S → ℕ → Known S
  with_turns v turns = record v { turns = turns }

  -- the seat, once its turn at this ticket has left this state
  abbrev pub after_turn : Known S → ℕ → S → Known S
  after_turn v ticket state = record v { turns = ticket + 1; last = state; hold = Free }
