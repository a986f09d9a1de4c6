-- Files at their cells, with one seat each.
use Rattle.std.specs.Prelude.{◌≡◌, ℕ, suc, ◌≤◌, List, [], ◌∷◌, map, None, Option, vec_capacity}
use Rattle.domains.specs.Level.{Level}
use Rattle.domains.specs.Shape.{Shape}
use Rattle.flex_io.specs.declared.raw_place.RawPlace.{RawPlace}
use Rattle.scenario.specs.declared.scenario.FileDecl.{FileDecl}
use Rattle.turn_cell.specs.Seats.{IsIdleOf, cell_view, seat_view}
use Rattle.file_history.specs.declared.entry.FileEntry.{FileEntry}
use Rattle.file_core.specs.FileView.{FileView, IsFile}
use Rattle.file_cells.specs.declared.open_file.OpenFile.{OpenFile}

module _ {S : Type 0} where
  -- the file as its seat's last turn left it
  abbrev pub state_of : OpenFile S → FileView S
  state_of f = (seat_view f.seat).last

  -- the entries of its log
  abbrev pub entries_of : FileView S → List FileEntry
  entries_of f = map (λ n. n.entry.told.entry) f.notes

  -- the cell has this one seat, which is in no turn, and there is room for it at the close
  pub record IsOpen (f : OpenFile S) : Type 0 where
    pub seat : IsIdleOf (cell_view f.cell) (seat_view f.seat)
    pub first : (seat_view f.seat).number ≡ 0
    pub alone : (cell_view f.cell).seats ≡ 1
    pub none : f.seats.items ≡ []
    pub space : 1 ≤ vec_capacity f.seats

  -- the file is open, and holds no slot
  pub record HoldsNone (f : OpenFile S) : Type 0 where
    pub open_ : IsOpen f
    pub groups : (state_of f).groups ≡ []
    pub inode : (state_of f).inode ≡ None

  -- a file that was never created
  abbrev pub new_file : ℕ → Shape → Level → ℕ → FileView S
  new_file number shape level room =
      record { file = number; shape = shape; level = level; room = room; turns = 0; seat = 0; notes = []; groups = []; inode = None; spare = 0 }

module _ {S : Type 0} (place_of : S → RawPlace) (content : S → Option (List ℕ)) (len_of : S → ℕ) where
  -- the file is open, and was never created
  pub record IsNewFile (shape : Shape) (room number : ℕ) (d : FileDecl) (f : OpenFile S) : Type 0 where
    pub open_ : IsOpen f
    pub new : state_of f ≡ new_file number shape d.level room
    pub file : IsFile place_of content len_of (state_of f)

  -- these are the files that are declared, numbered from here on
  abbrev pub AreNew : Shape → ℕ → List FileDecl → ℕ → List (OpenFile S) → Type 0
  AreNew shape room [] number [] = Unit {0}
  AreNew shape room [] number (f ∷ fs) = ⊥
  AreNew shape room (d ∷ ds) number [] = ⊥
  AreNew shape room (d ∷ ds) number (f ∷ fs) = IsNewFile shape room number d f × AreNew shape room ds (suc number) fs
