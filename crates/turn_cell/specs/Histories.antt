-- How one state of a cell follows another.
use Rattle.std.specs.Prelude.{◌≡◌, ◌≢◌, ℕ, ◌+◌, ◌≤◌, List, [], ◌++◌}
use mathlib.Core.List.{IsPrefix}
use Rattle.turn_cell.specs.declared.chronicle.Note.{Note}
use Rattle.turn_cell.specs.Notes.{notes_by, AreOf, AreZeros}

module _ {S E F : Type 0} (turns_of : S → ℕ) (notes_of : S → List (Note E)) (tally_of : S → ℕ → List ℕ) (fixed_of : S → F) where
  -- now comes after last, and the seat has made no turn between them: its notes and its tally are the same
  pub record Follows (seat : ℕ) (last now : S) : Type 0 where
    pub later : turns_of last ≤ turns_of now
    pub seen : IsPrefix (notes_of last) (notes_of now)
    pub mine : notes_by seat (notes_of now) ≡ notes_by seat (notes_of last)
    pub tally : tally_of now seat ≡ tally_of last seat
    pub fixed : fixed_of now ≡ fixed_of last

  -- a turn of the seat may make y of x: it adds notes of this turn and seat
  pub record Changed (seat : ℕ) (x y : S) : Type 0 where
    pub turns : turns_of y ≡ turns_of x
    pub more : List (Note E)
    pub notes : notes_of y ≡ notes_of x ++ more
    pub own : AreOf (turns_of x) seat more
    pub others : (number : ℕ) → number ≢ seat → tally_of y number ≡ tally_of x number
    pub fixed : fixed_of y ≡ fixed_of x

  -- the state y that a turn of the seat leaves, which found x: the turn has passed
  pub record Leaves (seat : ℕ) (x y : S) : Type 0 where
    pub turns : turns_of y ≡ turns_of x + 1
    pub more : List (Note E)
    pub notes : notes_of y ≡ notes_of x ++ more
    pub own : AreOf (turns_of x) seat more
    pub others : (number : ℕ) → number ≢ seat → tally_of y number ≡ tally_of x number
    pub fixed : fixed_of y ≡ fixed_of x

module _ {S E : Type 0} (turns_of : S → ℕ) (notes_of : S → List (Note E)) (tally_of : S → ℕ → List ℕ) where
  -- a state of no turn: no note, and each tally is zeros
  pub record IsFresh (state : S) : Type 0 where
    pub turns : turns_of state ≡ 0
    pub notes : notes_of state ≡ []
    pub tallies : (number : ℕ) → AreZeros (tally_of state number)
