-- A turn of a seat at a file's cell.
use Rattle.std.specs.Prelude.{◌≡◌, ℕ, ◌+◌, ◌≤◌, []}
use Rattle.turn_cell.specs.Histories.{Changed, Follows}
use Rattle.turn_cell.specs.Seats.{SeatView, left}
use Rattle.file_core.specs.FileView.{FileView}
use Rattle.file_core.specs.declared.chronicle.FileTerms.{FileTerms}
use Rattle.file_core.specs.declared.noted.Noted.{Noted}

module _ {S : Type 0} where
  -- what no turn changes of a file
  abbrev pub terms_of : FileView S → FileTerms
  terms_of f = record { file = f.file; shape = f.shape; level = f.level; room = f.room }

  -- the file as a seat finds it that has made no turn since the one that left `last`
  abbrev pub FollowsFile : ℕ → FileView S → FileView S → Type 0
  FollowsFile number last now =
      Follows {E = Noted} {F = FileTerms} (λ (f : FileView S). f.turns) (λ (f : FileView S). f.notes) (λ (f : FileView S) (k : ℕ). []) (λ (f : FileView S). record { file = f.file; shape = f.shape; level = f.level; room = f.room }) number last now

  -- a turn of the seat may make y of x
  abbrev pub ChangesFile : ℕ → FileView S → FileView S → Type 0
  ChangesFile number x y =
      Changed {E = Noted} {F = FileTerms} (λ (f : FileView S). f.turns) (λ (f : FileView S). f.notes) (λ (f : FileView S) (k : ℕ). []) (λ (f : FileView S). record { file = f.file; shape = f.shape; level = f.level; room = f.room }) number x y

  -- the seat made one turn, in which it did this with the file that it found; with one seat at the cell, that is what its last
  -- turn left
  pub record FileTurn (what : FileView S → FileView S → Type 0) (old new : SeatView (FileView S)) : Type 0 where
    pub found : FileView S
    pub done : FileView S
    pub turns : old.turns ≤ found.turns
    pub follows : FollowsFile old.number old.last found
    pub lone : old.cell.seats ≡ 1 → found ≡ old.last
    pub did : what (record found { seat = old.number }) done
    pub now : new ≡ left old (found.turns + 1) (record done { turns = done.turns + 1 })
