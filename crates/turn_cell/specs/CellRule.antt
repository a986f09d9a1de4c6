-- The rule of a cell: what its two words, its slot and the views of its seats have to do with the value and its history.
use Rattle.std.specs.Prelude.{◌≡◌, ℕ, ◌+◌, ◌<◌, ◌≤◌, ◌⊎◌, List, [], ◌∷◌, length, Option, Some}
use mathlib.Core.Option as maybe
use lib.ListN.{get_elem?}
use Rattle.atomic_table.specs.Table.{State}
use Rattle.turn_cell.specs.declared.chronicle.Note.{Note}
use Rattle.turn_cell.specs.declared.view.Hold.{Hold}
use Rattle.turn_cell.specs.declared.view.Hold.TheVariants.{Free, Waits, Has}
use Rattle.turn_cell.specs.declared.view.Known.{Known}
use Rattle.turn_cell.specs.declared.view.View.{View}
use Rattle.turn_cell.specs.declared.view.View.TheVariants.{Active, Spent}
use Rattle.turn_cell.specs.Notes.{AreBelow}
use Rattle.turn_cell.specs.Histories.{Follows, IsFresh}
use Rattle.turn_cell.specs.Views.{ticket_in}

module _ {S : Type 0} where
  -- the view of seat 0, once it has made this many of the seats
  abbrev pub dealing : ℕ → ℕ → S → View S
  dealing dealt seats state = Active (record { number = 0; seats = seats; dealt = dealt; turns = 0; last = state; hold = Free; joined = [] })

  -- the view of the seat that comes with the cell
  abbrev pub first_view : ℕ → S → View S
  first_view seats state = dealing 1 seats state

  -- the view of the seat of this number, before its first turn
  abbrev pub new_view : ℕ → ℕ → S → View S
  new_view number seats state = Active (record { number = number; seats = seats; dealt = 1; turns = 0; last = state; hold = Free; joined = [] })

  -- seat 0, once it has made one more
  abbrev pub dealer : View S → View S
  dealer (Active v) = Active (record v { dealt = v.dealt + 1 })
  dealer Spent = Spent

  -- the seat that seat 0 makes next
  abbrev pub newcomer : View S → View S
  newcomer (Active v) = new_view v.dealt v.seats v.last
  newcomer Spent = Spent

  -- the first of two seats, once it has taken in the second
  abbrev pub taken_in : View S → View S → View S
  taken_in (Active v) (Active w) = Active (record v { joined = (w.number, w.last) ∷ v.joined })
  taken_in (Active v) Spent = Active v
  taken_in Spent w = Spent

  -- no two seats hold one ticket
  abbrev pub AreTicketsApart : List (View S) → Type 0
  AreTicketsApart views = (i j t : ℕ) (u v : View S) → get_elem? views i ≡ maybe.some u → get_elem? views j ≡ maybe.some v → ticket_in u ≡ Some t → ticket_in v ≡ Some t → i ≡ j

module _ {S E F : Type 0} (turns_of : S → ℕ) (notes_of : S → List (Note E)) (tally_of : S → ℕ → List ℕ) (fixed_of : S → F) where
  -- a ticket that waits is not served yet; at one that is served, the value is the one that was found
  abbrev pub HoldFits : S → ℕ → Hold S → Type 0
  HoldFits now ticket Free = Unit {0}
  HoldFits now ticket (Waits t) = (turns_of now ≤ t) × (t < ticket)
  HoldFits now ticket (Has t x) = (t ≡ turns_of now) × (t < ticket) × (x ≡ now)

  -- the views of these seats are spent, and the value follows the last state of each
  abbrev pub AreTakenIn : S → List (View S) → List (ℕ × S) → Type 0
  AreTakenIn now views [] = Unit {0}
  AreTakenIn now views (p ∷ ps) = (get_elem? views p.0 ≡ maybe.some Spent) × Follows turns_of notes_of tally_of fixed_of p.0 p.1 now × AreTakenIn now views ps

  -- what a seat knows is true
  pub record SeatFits (seats : ℕ) (now : S) (ticket : ℕ) (views : List (View S)) (seat : ℕ) (v : Known S) : Type 0 where
    pub numbered : v.number ≡ seat
    pub within : seat < seats
    pub sized : v.seats ≡ seats
    pub follows : Follows turns_of notes_of tally_of fixed_of seat v.last now
    pub looked : v.turns ≤ turns_of now
    pub held : HoldFits now ticket v.hold
    pub lone : seats ≡ 1 → v.last ≡ now
    pub counted : seat ≡ 0 → v.dealt ≡ length views
    pub took_in : AreTakenIn now views v.joined

  -- the value is in its slot, or the seat whose ticket is served has it
  abbrev pub IsValuePlaced : S → List (maybe.Option (Option S)) → List (View S) → Type 0
  IsValuePlaced now homes views =
      (homes ≡ maybe.some (Some now) ∷ [])
      ⊎ ((homes ≡ maybe.none ∷ []) × ((seat : ℕ) × (v : Known S) × (get_elem? views seat ≡ maybe.some (Active v)) × (v.hold ≡ Has (turns_of now) now)))

  -- no note has a number that no seat has yet, and the tally of such a number is the first state's
  pub record IsOwned (first now : S) (count : ℕ) : Type 0 where
    pub notes : AreBelow count (notes_of now)
    pub tallies : (number : ℕ) → count ≤ number → tally_of now number ≡ tally_of first number
    pub fixed : fixed_of now ≡ fixed_of first

  -- the words, the slot and the views meet the rule: there are a value and a next ticket that they agree with
  pub record MeetsRule (seats : ℕ) (first : S) (s : State (Option S) (View S)) : Type 0 where
    pub now : S
    pub ticket : ℕ
    pub words : s.words ≡ ticket ∷ turns_of now ∷ []
    pub due : turns_of now ≤ ticket
    pub placed : IsValuePlaced now s.homes s.views
    pub fits : (seat : ℕ) (v : Known S) → get_elem? s.views seat ≡ maybe.some (Active v) → SeatFits seats now ticket s.views seat v
    pub apart : AreTicketsApart s.views
    pub roomy : length s.views ≤ seats
    pub owned : IsOwned first now (length s.views)
    pub fresh : IsFresh turns_of notes_of tally_of first
