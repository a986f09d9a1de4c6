-- The notes of a history, by seat and by turn.
use Rattle.std.specs.Prelude.{◌≡◌, ℕ, ◌<◌, ◌==◌, List, map}
use Rattle.std.specs.List.{All, filter}
use Rattle.turn_cell.specs.declared.chronicle.Note.{Note}

module _ {E : Type 0} where
  -- the notes with this seat's number, in their order
  abbrev pub notes_by : ℕ → List (Note E) → List (Note E)
  notes_by seat notes = filter (λ note. note.seat == seat) notes

  -- their entries
  abbrev pub entries_by : ℕ → List (Note E) → List E
  entries_by seat notes = map (λ note. note.entry) (notes_by seat notes)

  -- each note has a seat's number below this one
  abbrev pub AreBelow : ℕ → List (Note E) → Type 0
  AreBelow seats notes = All (λ note. note.seat < seats) notes

  -- each note was made in this turn, by this seat
  abbrev pub AreOf : ℕ → ℕ → List (Note E) → Type 0
  AreOf turn seat notes = All (λ note. (note.turn ≡ turn) × (note.seat ≡ seat)) notes

-- each number is 0
abbrev pub AreZeros : List ℕ → Type 0
AreZeros numbers = All (λ number. number ≡ 0) numbers
