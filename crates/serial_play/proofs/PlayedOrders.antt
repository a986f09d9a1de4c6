-- An order to the board, which is done with its entry.
use Rattle.std.proofs.Common.{inl, inr, ◌≡◌, ℕ, true, false, List, [], ◌∷◌, ◌++◌, length, map, take, Option, Some, sym, ap, subst, ◌∙◌, arith}
use Rattle.std.specs.List.{AllByRecursion}
use Rattle.std.specs.Option.{option_map_or}
use Rattle.std.proofs.Math.Seq.{take-length}
use Rattle.std.proofs.lemmas.List.{map-append}
use Rattle.actor_operations.specs.Entries.{board_of}
use Rattle.actor_operations.specs.Operations.{DoesOrder}
use Rattle.board.specs.History.{log_of}
use Rattle.board_history.specs.Board.{IsBoardStep}
use Rattle.board_history.specs.declared.entry.BoardEntry.{BoardEntry}
use Rattle.board_history.specs.declared.entry.Order.{Order}
use Rattle.board_history.proofs.Histories.{take-before}
use Rattle.domains.specs.Shape.{Shape}
use Rattle.domains.specs.declared.by.By.{By}
use Rattle.fabric.specs.Accounts.{Stays}
use Rattle.fabric.specs.Cells.{FabricView}
use Rattle.fabric.specs.declared.hand.Hand.{Hand}
use Rattle.file_cells.specs.FileEnds.{logs_of_files}
use Rattle.file_cells.specs.OpenFiles.{state_of}
use Rattle.file_cells.specs.declared.open_file.OpenFile.{OpenFile}
use Rattle.flex_io.specs.declared.raw_place.RawPlace.{RawPlace}
use Rattle.legal_runs.specs.Entries.{IsLegalBoard, IsLegalOrder}
use Rattle.legal_runs.specs.Operations.{IsOrderOf, op_at}
use Rattle.noted_runs.specs.NotedRuns.{AreNotesIn}
use Rattle.noted_runs.proofs.NoteGrowth.{notes-later}
use Rattle.serial_order.specs.SerialOrder.{is_earlier}
use Rattle.serial_runs.specs.SerialLogs.{AreSerialLogs, is_for_board, is_for_file}
use Rattle.serial_runs.proofs.SerialGrowth.{at-push, with_order}
use Rattle.turn_cell.specs.declared.chronicle.Note.{Note}
use Rattle.whole_scenario.specs.declared.op.Op.{Op}
use Rattle.whole_scenario.specs.declared.whole.Scenario.{Scenario}
use Rattle.serial_play.specs.PlayedRuns.{IsPlayed}

-- a legal log of the board with a legal entry more
pub legal-push : (s : Scenario) (board : List BoardEntry) (e : BoardEntry) → IsLegalBoard s board → IsLegalOrder s board e → IsLegalBoard s (board ++ e ∷ [])
legal-push s board e legal step index x there = elim (at-push board e x index there) [
  | inl before ↦
      let low = before.1 in
      subst (λ (l : List BoardEntry). IsLegalOrder s l x) (sym (take-before board (e ∷ []) index (omega (arith, low)))) (legal index x before.0)
  | inr last ↦
      let end : take index (board ++ e ∷ []) ≡ board = ap (λ (n : ℕ). take n (board ++ e ∷ [])) last.0 ∙ take-before board (e ∷ []) (length board) (omega arith) ∙ take-length board in
      subst (λ (l : List BoardEntry). IsLegalOrder s l x) (sym end) (subst (IsLegalOrder s board) last.1 step)
]

module _ {S : Type 0} (place_of : S → RawPlace) (content : S → Option (List ℕ)) (len_of : S → ℕ) (s : Scenario) (done : List By) (f : FabricView) (files : List (OpenFile S))
    (old new : Hand S) (by : By) (operation : Op) (order : Order) (played : IsPlayed place_of content len_of s done files old) (known : op_at s by ≡ Some operation)
    (fits : IsOrderOf operation order) (for_board : is_for_board operation ≡ true) (for_file : (file : ℕ) → is_for_file file operation ≡ false)
    (shape : f.shape ≡ s.shape) (board_shape : (board_of old).shape ≡ s.shape) (earlier : AllByRecursion (λ (x : By). is_earlier x by ≡ true) done)
    (did : DoesOrder f order by old new) where
  abbrev entry : BoardEntry
  entry = record { by = by; order = order; effect = did.effect }

  board_more : log_of (board_of new) ≡ log_of (board_of old) ++ entry ∷ []
  board_more = ap (map (λ (n : Note BoardEntry). n.entry)) did.notes ∙ map-append (λ (n : Note BoardEntry). n.entry) (board_of old).notes _

  legal : IsLegalOrder s (log_of (board_of old)) entry
  legal = record {
    step = subst (λ (x : Shape). IsBoardStep x (log_of (board_of old)) entry) board_shape did.legal;
    fits = record { operation = operation; known = known; answers = fits };
  }

  pub played_order : IsPlayed place_of content len_of s (done ++ by ∷ []) files new
  played_order = record {
    many = played.many;
    open_ = played.open_;
    each = λ number d g is_d at.
        let was = played.each number d g is_d at in
        record {
          file = was.file;
          shape_is = was.shape_is;
          level_is = was.level_is;
          room_is = was.room_is;
          own = was.own;
          notes = subst (λ (l : List BoardEntry). AreNotesIn s l number (state_of g).notes) (sym board_more)
              (notes-later s (log_of (board_of old)) (entry ∷ []) number (state_of g).notes was.notes);
        };
    board_room = did.room ∙ played.board_room;
    orders = subst (IsLegalBoard s) (sym board_more) (legal-push s (log_of (board_of old)) entry played.orders legal);
    serial = subst (λ (l : List BoardEntry). AreSerialLogs s (done ++ by ∷ []) l (logs_of_files files)) (sym board_more)
        (with_order s done (log_of (board_of old)) (logs_of_files files) played.serial entry (ap (λ (o : Option Op). option_map_or is_for_board o false) known ∙ for_board)
        (λ file. ap (λ (o : Option Op). option_map_or (is_for_file file) o false) known ∙ for_file file) earlier);
    account = λ d of. subst (λ (x : Shape). Stays x old new) shape did.held d _ of (played.account d of);
  }
