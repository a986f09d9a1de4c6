-- What the sets show of the log.
use Rattle.std.proofs.Common.{◌≡◌, ℕ, ◌≤◌, ◌&&◌, List, [], ◌∷◌, ◌++◌, refl, length, ◌∙◌, ap, sym, subst, le_trans, length-append, le-add_right, arith}
use Rattle.domains.specs.Shape.{Shape, is_of}
use Rattle.board_history.specs.Board.{state_after, is_up, is_gone, up_after, gone_after}
use Rattle.board_history.specs.declared.entry.BoardEntry.{BoardEntry}
use Rattle.board_history.proofs.Histories.{up_after-all, gone_after-all, take-before}
use Rattle.turn_cell.specs.declared.chronicle.Note.{Note}
use Rattle.board.specs.History.{History, entries_of, log_of}
use Rattle.board.specs.DriveStates.{HasStates}
use Rattle.board.specs.Views.{FollowsBoard, IsViewOf}
use Rattle.board.specs.declared.board_view.View.{View}
use Rattle.board.specs.declared.drive_states.DriveStates.{DriveStates}

-- the sets that the log leaves are a view of the whole log
pub shows : (shape : Shape) (log : List BoardEntry) (s : DriveStates) (epoch : ℕ) → epoch ≡ length log → HasStates shape log s
    → IsViewOf shape log (record { epoch = epoch; up = s.up; gone = s.gone })
shows shape log s epoch whole states = record {
  epoch = omega arith;
  up = λ d of_d. states.up d of_d ∙ sym (ap (λ (e : ℕ). up_after shape log e d) whole ∙ up_after-all shape log d);
  gone = λ d of_d. states.gone d of_d ∙ sym (ap (λ (e : ℕ). gone_after shape log e d) whole ∙ gone_after-all shape log d);
}

-- a view of the log is one of each longer log
pub IsViewOf-later : (shape : Shape) (log more : List BoardEntry) (view : View) → IsViewOf shape log view → IsViewOf shape (log ++ more) view
IsViewOf-later shape log more view shown =
    let before = take-before log more view.epoch shown.epoch in record {
      epoch = le_trans shown.epoch (subst (λ (n : ℕ). length log ≤ n) (sym (length-append log more)) (le-add_right (length log) (length more)));
      up = λ d of_d. shown.up d of_d ∙ ap (λ (l : List BoardEntry). is_of shape d && is_up (state_after l d)) (sym before);
      gone = λ d of_d. shown.gone d of_d ∙ ap (λ (l : List BoardEntry). is_of shape d && is_gone (state_after l d)) (sym before);
    }

entries_of-append : (xs ys : List (Note BoardEntry)) → entries_of (xs ++ ys) ≡ entries_of xs ++ entries_of ys
entries_of-append [] ys = refl
entries_of-append (x ∷ xs) ys = ap (λ l. x.entry ∷ l) (entries_of-append xs ys)

-- what a seat has seen is a view of each board that follows
pub IsViewOf-follows : (number : ℕ) (last now : History) (view : View) → FollowsBoard number last now → IsViewOf last.shape (log_of last) view → IsViewOf now.shape (log_of now) view
IsViewOf-follows number last now view follows shown =
    let more = follows.seen.0 in
    let log : log_of now ≡ log_of last ++ entries_of more = sym (ap entries_of follows.seen.1) ∙ entries_of-append last.notes more in
    let shape : now.shape ≡ last.shape = ap (λ (f : Shape × ℕ). f.0) follows.fixed in
    subst (λ (x : Shape × List BoardEntry). IsViewOf x.0 x.1 view) (λ i. (sym shape i, sym log i)) (IsViewOf-later last.shape (log_of last) (entries_of more) view shown)
