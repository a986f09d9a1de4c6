-- What contracts see of a board.
use Rattle.std.specs.Prelude.{ℕ, ◌-◌, List, [], ◌∷◌, ◌++◌, map}
use Rattle.domains.specs.Shape.{Shape}
use Rattle.board_history.specs.declared.entry.BoardEntry.{BoardEntry}
use Rattle.turn_cell.specs.declared.chronicle.Note.{Note}
use Rattle.board.specs.declared.entry_stamp.EntryStamp.{EntryStamp}

-- the cluster, the most entries of the log, the number of turns passed, the seat whose turn it is, the entries with their turns
-- and seats, and how many more there is memory for
pub record History : Type 0 where
  pub shape : Shape
  pub room : ℕ
  pub turns : ℕ
  pub seat : ℕ
  pub notes : List (Note BoardEntry)
  pub spare : ℕ

-- the entries
abbrev pub entries_of : List (Note BoardEntry) → List BoardEntry
entries_of notes = map (λ note. note.entry) notes

-- the board's log
abbrev pub log_of : History → List BoardEntry
log_of h = entries_of h.notes

-- each entry with its stamp
abbrev pub stamped : List EntryStamp → List BoardEntry → List (Note BoardEntry)
stamped [] es = []
stamped (s ∷ ss) [] = []
stamped (s ∷ ss) (e ∷ es) = record { turn = s.turn; seat = s.seat; entry = e } ∷ stamped ss es

-- the board with one more entry
abbrev pub with_entry : History → BoardEntry → History
with_entry h entry = record h { notes = h.notes ++ record { turn = h.turns; seat = h.seat; entry = entry } ∷ []; spare = h.spare - 1 }
