-- What a board keeps, with one more entry.
use Rattle.std.proofs.Common.{◌≡◌, ℕ, ◌+◌, ◌-◌, ◌<◌, ◌≤◌, min, List, [], ◌∷◌, ◌++◌, length, length-append, arith}
use Rattle.domains.specs.Shape.{Shape}
use Rattle.board_history.specs.Board.{IsBoardStep}
use Rattle.board_history.specs.declared.entry.BoardEntry.{BoardEntry}
use Rattle.board_history.proofs.Histories.{AreBoardSteps-push}
use Rattle.board.specs.BoardInvariant.{BoardInvariant}
use Rattle.board.specs.DriveStates.{HasStates}
use Rattle.board.specs.declared.entry_stamp.EntryStamp.{EntryStamp}
use Rattle.board.specs.declared.drive_states.DriveStates.{DriveStates}

one_more : {A : Type 0} (xs : List A) (x : A) → length (xs ++ x ∷ []) ≡ length xs + 1
one_more xs x = length-append xs (x ∷ [])

pub BoardInvariant-push : (shape : Shape) (room : ℕ) (es : List BoardEntry) (ss : List EntryStamp) (old new : DriveStates) (e : BoardEntry) (s : EntryStamp)
    → BoardInvariant shape room es ss old → IsBoardStep shape es e → length es < room → HasStates shape (es ++ e ∷ []) new → BoardInvariant shape room (es ++ e ∷ []) (ss ++ s ∷ []) new
BoardInvariant-push shape room es ss old new e s kept step below states =
    let entries = one_more es e in
    let stamps = one_more ss s in
    let same = kept.stamped in record {
      stamped = omega arith;
      legal = AreBoardSteps-push shape [] es e kept.legal step;
      within = omega arith;
      small = kept.small;
      states = states;
    }

-- where an entry is spare, the log is not at its room
pub below_room : (memory room len : ℕ) → 1 ≤ min memory room - len → len < room
below_room memory room len spare = grind arith
