-- What each step of a cell tells its seat.
use Rattle.std.specs.Prelude.{◌≡◌, ◌≢◌, ℕ, ◌<◌, ◌≤◌, List, [], ◌∷◌, Option, Some}
use Rattle.atomic_table.specs.Table.{Me, Step}
use Rattle.turn_cell.specs.declared.chronicle.Note.{Note}
use Rattle.turn_cell.specs.declared.view.Hold.TheVariants.{Free, Waits, Has}
use Rattle.turn_cell.specs.declared.view.Known.{Known}
use Rattle.turn_cell.specs.declared.view.View.{View}
use Rattle.turn_cell.specs.declared.view.View.TheVariants.{Active}
use Rattle.turn_cell.specs.Notes.{AreBelow}
use Rattle.turn_cell.specs.Histories.{Follows}
use Rattle.turn_cell.specs.Views.{with_hold, with_turns, after_turn}

abbrev SeatState : Type 0 → Type 0
SeatState S = Me (Option S) (View S)

module _ {S : Type 0} where
  -- the ticket was drawn if the word was the expected one; else nothing changed
  abbrev pub drew : Step (Option S) → SeatState S → ℕ → SeatState S → Type 0
  drew st m r m' = (v : Known S) → m.0 ≡ Active v → v.hold ≡ Free → m.1 ≡ []
      → (r ≡ st.first → m' ≡ (Active (with_hold v (Waits st.first)), [])) × (r ≢ st.first → m' ≡ m)

  -- r turns have passed
  abbrev pub looked : Step (Option S) → SeatState S → ℕ → SeatState S → Type 0
  looked st m r m' = (v : Known S) → m.0 ≡ Active v → v.hold ≡ Free → m.1 ≡ [] → (m' ≡ (Active (with_turns v r), [])) × (v.turns ≤ r)

  -- the value is back, and the turn has passed
  abbrev pub advanced : Step (Option S) → SeatState S → ℕ → SeatState S → Type 0
  advanced st m r m' = (v : Known S) (t : ℕ) (x y : S) → m.0 ≡ Active v → v.hold ≡ Has t x → m.1 ≡ (0, Some y) ∷ [] → m' ≡ (Active (after_turn v t y), [])

module _ {S E F : Type 0} (turns_of : S → ℕ) (notes_of : S → List (Note E)) (tally_of : S → ℕ → List ℕ) (fixed_of : S → F) where
  -- the value x that a turn finds at its ticket: the seat's number, how many seats there are, and the turns and the last state that it knows
  pub record IsFound (number seats turns : ℕ) (last : S) (ticket : ℕ) (x : S) : Type 0 where
    pub served : turns_of x ≡ ticket
    pub within : number < seats
    pub passed : turns ≤ turns_of x
    pub follows : Follows turns_of notes_of tally_of fixed_of number last x
    pub below : AreBelow seats (notes_of x)
    pub lone : seats ≡ 1 → x ≡ last

  -- the value x that the seat's turn finds at its ticket
  abbrev pub Finds : Known S → ℕ → S → Type 0
  Finds v ticket x = IsFound v.number v.seats v.turns v.last ticket x

  -- if the ticket is served, the seat has the value; else nothing changed
  abbrev pub took : Step (Option S) → SeatState S → ℕ → SeatState S → Type 0
  took st m r m' = (v : Known S) (t : ℕ) → m.0 ≡ Active v → v.hold ≡ Waits t → m.1 ≡ []
      → (r ≡ t → (x : S) × (m' ≡ (Active (with_hold v (Has t x)), (0, Some x) ∷ [])) × Finds v t x) × (r ≢ t → m' ≡ m)
