-- What one turn at a file notes, where the file's cell and the board have one seat each.
use Rattle.std.proofs.Common.{◌≡◌, ℕ, ◌+◌, ◌<◌, List, [], ◌∷◌, ◌++◌, length, refl, ap, subst, ◌∙◌}
use Rattle.board.specs.History.{History, entries_of, log_of}
use Rattle.board.specs.Views.{IsViewOf}
use Rattle.board.specs.declared.board_view.View.{View}
use Rattle.board_history.specs.declared.entry.BoardEntry.{BoardEntry}
use Rattle.domains.specs.Shape.{Shape}
use Rattle.domains.specs.declared.by.By.{By}
use Rattle.fabric.specs.Cells.{FabricView}
use Rattle.fabric.specs.declared.hand.Hand.{Hand}
use Rattle.file_core.specs.FileView.{FileView}
use Rattle.file_core.specs.Notes.{noted}
use Rattle.file_history.specs.declared.entry.FileEvent.{FileEvent}
use Rattle.file_turns.specs.FileTurns.{FileTurn}
use Rattle.file_turns.specs.PathAccounts.{KeepsAccount}
use Rattle.file_turns.specs.PathRoom.{entries_of_path}
use Rattle.file_turns.specs.Paths.{IsFull, SeesBoard}
use Rattle.file_turns.proofs.FileTurnLemmas.{NotesOne}
use Rattle.legal_runs.specs.Operations.{AnswersAction, payload_of_action}
use Rattle.operation_text.specs.declared.named_op.FileAction.{FileAction}
use Rattle.turn_cell.specs.Seats.{SeatView, seat_view}
use Rattle.actor_operations.specs.Entries.{DoesAction, FindsFullLog, IsEntryOf, board_of}

module _ {S : Type 0} (f : FabricView) (least : ℕ) (view : View) (old looked : Hand S) (one : f.board.seats ≡ 1) (sees : SeesBoard f least view old looked) where
  -- the look at the board adds no entry
  pub board_looked : (board_of looked).notes ≡ (board_of old).notes
  board_looked = ap (λ (hand : Hand S). (board_of hand).notes) sees.only ∙ sees.sees.lone one

  -- nor changes its room
  pub room_looked : (board_of looked).room ≡ (board_of old).room
  room_looked = ap (λ (hand : Hand S). (board_of hand).room) sees.only ∙ ap (λ (p : Shape × ℕ). p.1) sees.sees.follows.fixed

  -- its view is one of all entries
  whole : view.epoch ≡ length (board_of old).notes
  whole = sees.sees.epoch ∙ ap length (sees.sees.lone one)

  shows : IsViewOf (board_of old).shape (log_of (board_of old)) view
  shows =
      let log : log_of (seat_view sees.seat).last ≡ log_of (board_of old) = ap entries_of (sees.sees.lone one) in
      let shape : (seat_view sees.seat).last.shape ≡ (board_of old).shape = ap (λ (p : Shape × ℕ). p.0) sees.sees.follows.fixed in
      subst (λ (s : Shape). IsViewOf s (log_of (board_of old)) view) shape
      (subst (λ (l : List BoardEntry). IsViewOf (seat_view sees.seat).last.shape l view) log sees.sees.view)

  -- what a call notes at that view is the entry of the action
  pub entry_of : (action : FileAction) (by : By) (event : FileEvent) → AnswersAction action event → [] ≡ payload_of_action action
      → IsEntryOf action by (board_of old) (noted by view event [])
  entry_of action by event answers brings = record {
    view = view;
    shows = shows;
    whole = whole;
    kept = refl;
    author = refl;
    epoch = whole;
    answers = answers;
    payload = brings;
  }

module _ {S : Type 0} (f : FabricView) (what : FileView S → FileView S → Type 0) (before after : SeatView (FileView S)) (turn : FileTurn what before after)
    (alone : before.cell.seats ≡ 1) (one : f.board.seats ≡ 1) (old new : Hand S) where
  -- a turn with one note, the entry of the action, does the action
  pub does : (action : FileAction) (by : By) (event : FileEvent) (least : ℕ) (view : View) (looked : Hand S) → SeesBoard f least view old looked
      → NotesOne (noted by view event []) (record turn.found { seat = before.number }) turn.done → AnswersAction action event → [] ≡ payload_of_action action
      → seat_view new.board ≡ seat_view looked.board → KeepsAccount f.shape before.number before.last after.last old new
      → DoesAction f action by before.number before.last after.last old new
  does action by event least view looked sees note answers brings board account = record {
    entry = record {
      turn = turn.found.turns;
      entry = noted by view event [];
      notes = ap (λ (s : SeatView (FileView S)). s.last.notes) turn.now ∙ note.notes
          ∙ ap (λ (x : FileView S). x.notes ++ record { turn = turn.found.turns; seat = before.number; entry = noted by view event [] } ∷ []) (turn.lone alone);
      is = entry_of f least view old looked one sees action by event answers brings;
    };
    board = ap (λ (s : SeatView History). s.last.notes) board ∙ board_looked f least view old looked one sees;
    room = ap (λ (s : SeatView History). s.last.room) board ∙ room_looked f least view old looked one sees;
    account = account;
  }

  -- a turn that finds the log full changes nothing
  pub full : IsFull (record turn.found { seat = before.number }) turn.done old new → FindsFullLog before.last after.last old new
  full is =
      let found : turn.found ≡ before.last = turn.lone alone in
      record {
        full = subst (λ (x : FileView S). x.room < length x.notes + entries_of_path x) found is.full;
        notes = ap (λ (s : SeatView (FileView S)). s.last.notes) turn.now ∙ ap (λ (x : FileView S). x.notes) is.file ∙ ap (λ (x : FileView S). x.notes) found;
        groups = ap (λ (s : SeatView (FileView S)). s.last.groups) turn.now ∙ ap (λ (x : FileView S). x.groups) is.file ∙ ap (λ (x : FileView S). x.groups) found;
        inode = ap (λ (s : SeatView (FileView S)). s.last.inode) turn.now ∙ ap (λ (x : FileView S). x.inode) is.file ∙ ap (λ (x : FileView S). x.inode) found;
        hand = is.hand;
      }
