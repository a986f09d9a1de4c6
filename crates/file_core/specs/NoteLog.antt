-- How the notes of a file are kept: stamps beside entries, and each view once.
use Rattle.std.specs.Prelude.{◌≡◌, ℕ, ◌-◌, ◌≤◌, ◌<◌, List, [], ◌∷◌, ◌++◌, length, slice_index_or}
use Rattle.std.specs.List.{AllByRecursion}
use Rattle.turn_cell.specs.declared.chronicle.Note.{Note}
use Rattle.file_history.specs.declared.entry.FileEntry.{FileEntry}
use Rattle.file_history.specs.declared.view.EpochView.{EpochView}
use Rattle.file_core.specs.declared.noted.Noted.{Noted}
use Rattle.file_core.specs.declared.note_log.EntryStamp.{EntryStamp}

-- the notes, and how many more there is memory for
pub record NoteList : Type 0 where
  pub notes : List (Note Noted)
  pub spare : ℕ

-- stands where no view is kept
abbrev pub no_view : EpochView
no_view = record { epoch = 0; up = record { nodes = [] }; gone = record { nodes = [] } }

-- an entry with its stamp, and the view that the stamp names
abbrev pub stamped_entry : List EpochView → EntryStamp → FileEntry → Note Noted
stamped_entry views s e = record {
  turn = s.turn;
  seat = s.seat;
  entry = record { view = slice_index_or views s.view no_view; told = record { entry = e; payload = s.payload } };
}

-- each entry with its stamp and its view
abbrev pub stamped : List EntryStamp → List FileEntry → List EpochView → List (Note Noted)
stamped [] es views = []
stamped (s ∷ ss) [] views = []
stamped (s ∷ ss) (e ∷ es) views = stamped_entry views s e ∷ stamped ss es views

-- each entry has its stamp, and the view of each stamp is kept
pub record KeepsNotes (entries : List FileEntry) (stamps : List EntryStamp) (views : List EpochView) : Type 0 where
  pub whole : length stamps ≡ length entries
  pub known : AllByRecursion (λ (s : EntryStamp). s.view < length views) stamps
  pub few : length views ≤ length entries

-- the log with one note more
abbrev pub pushed : NoteList → Note Noted → NoteList
pushed l n = record { notes = l.notes ++ n ∷ []; spare = l.spare - 1 }

-- the view is kept at this index, behind the old ones if it is not the last of them
pub record IsKept (view : EpochView) (old new : List EpochView) (index : ℕ) : Type 0 where
  pub more : List EpochView
  pub kept : new ≡ old ++ more
  pub one : length more ≤ 1
  pub within : index < length new
  pub here : slice_index_or new index no_view ≡ view
