-- What contracts see of a file.
use Rattle.std.specs.Prelude.{ℕ, ◌≤◌, ◌-◌, List, [], ◌∷◌, ◌++◌, map, Option}
use Rattle.flex_io.specs.declared.raw_place.RawPlace.{RawPlace}
use Rattle.domains.specs.Shape.{Shape}
use Rattle.domains.specs.Level.{Level}
use Rattle.board.specs.declared.board_view.View.{View}
use Rattle.turn_cell.specs.declared.chronicle.Note.{Note}
use Rattle.file_history.specs.World.{Moment}
use Rattle.file_history.specs.Bytes.{bytes_after}
use Rattle.file_history.specs.Layout.{Layout, layout_after}
use Rattle.file_history.specs.declared.entry.NotedEntry.{NotedEntry}
use Rattle.file_core.specs.declared.noted.Noted.{Noted}
use Rattle.file_core.specs.Notes.{kept_view, told_of, moment_of, last_epoch_of}
use Rattle.striped_groups.specs.StoredGroups.{GroupSlots, StoredGroup, stored_group, list_of, AllTell}
use Rattle.file_core.specs.FileInvariant.{KeepsFile}

-- its number, the cluster, its declared level, how many entries the log may have, the turns passed and the seat whose turn it is,
-- the notes, the slots of the groups in map order and of the inode, and how many more entries there is memory for
pub record FileView (S : Type 0) : Type 0 where
  pub file : ℕ
  pub shape : Shape
  pub level : Level
  pub room : ℕ
  pub turns : ℕ
  pub seat : ℕ
  pub notes : List (Note Noted)
  pub groups : List (GroupSlots S)
  pub inode : Option (GroupSlots S)
  pub spare : ℕ

module _ {S : Type 0} where
  abbrev pub log_of : FileView S → List NotedEntry
  log_of f = told_of f.notes

  -- what the notes say of the file
  abbrev pub layout_of : FileView S → Layout
  layout_of f = layout_after f.level (log_of f)

  abbrev pub bytes_of : FileView S → List ℕ
  bytes_of f = bytes_after (log_of f)

  abbrev pub now_of : FileView S → View → Moment
  now_of f view = moment_of f.shape f.level (kept_view view)

  -- the view is none of an earlier epoch than the last note's
  abbrev pub IsLater : View → FileView S → Type 0
  IsLater view f = last_epoch_of f.notes ≤ view.epoch

  -- the file with one more note of this turn
  abbrev pub with_note : FileView S → Noted → FileView S
  with_note f n = record f { notes = f.notes ++ record { turn = f.turns; seat = f.seat; entry = n } ∷ []; spare = f.spare - 1 }

  module _ (place_of : S → RawPlace) (content : S → Option (List ℕ)) (len_of : S → ℕ) where
    -- what its slots hold of the groups
    abbrev pub stored_groups : FileView S → List StoredGroup
    stored_groups f = map (stored_group place_of content len_of) f.groups

    -- and of the inode
    abbrev pub stored_inode : FileView S → List StoredGroup
    stored_inode f = map (stored_group place_of content len_of) (list_of f.inode)

    -- what holds of every file
    abbrev pub IsFile : FileView S → Type 0
    IsFile f = KeepsFile (AllTell content) f.shape f.level f.room f.notes (stored_groups f) (stored_inode f)
