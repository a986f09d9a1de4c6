-- Notes of a run stay so when the board's log grows.
use Rattle.std.proofs.Common.{ℕ, ◌&&◌, List, [], ◌∷◌, ◌++◌, sym, ap, ◌∙◌, arith, length-append}
use Rattle.board_history.specs.Board.{is_gone, is_up, state_after}
use Rattle.board_history.specs.declared.entry.BoardEntry.{BoardEntry}
use Rattle.board_history.proofs.Histories.{take-before}
use Rattle.domains.specs.Shape.{is_of}
use Rattle.file_core.specs.declared.noted.Noted.{Noted}
use Rattle.noted_runs.specs.NotedRuns.{AreNotesIn, IsNoteIn}
use Rattle.turn_cell.specs.declared.chronicle.Note.{Note}
use Rattle.whole_scenario.specs.declared.whole.Scenario.{Scenario}

pub note-later : (s : Scenario) (board more : List BoardEntry) (file : ℕ) (n : Noted) → IsNoteIn s board file n → IsNoteIn s (board ++ more) file n
note-later s board more file n is =
    let reached = is.reached in
    let long = length-append board more in
    let same = take-before board more n.view.epoch reached in
    record {
      reached = omega (arith, reached, long);
      shows = record {
        up = λ d of. is.shows.up d of ∙ ap (λ (l : List BoardEntry). is_of s.shape d && is_up (state_after l d)) (sym same);
        gone = λ d of. is.shows.gone d of ∙ ap (λ (l : List BoardEntry). is_of s.shape d && is_gone (state_after l d)) (sym same);
      };
      told = is.told;
      fits = is.fits;
    }

pub notes-later : (s : Scenario) (board more : List BoardEntry) (file : ℕ) (notes : List (Note Noted)) → AreNotesIn s board file notes → AreNotesIn s (board ++ more) file notes
notes-later s board more file [] all = tt
notes-later s board more file (n ∷ ns) all = (note-later s board more file n.entry all.0, notes-later s board more file ns all.1)
