-- What an operation leaves of a run, by its answer.
use Rattle.std.proofs.Common.{inl, inr, ◌≡◌, ℕ, zero, suc, ◌+◌, ◌<◌, true, false, List, [], ◌∷◌, ◌++◌, length, map, Option, Some, slice_get, Result, Ok, Err, refl, sym, ap, subst, ◌∙◌, arith}
use Rattle.std.specs.Prelude.{slice_set, unwrap_or}
use Rattle.std.specs.List.{AllByRecursion}
use Rattle.std.specs.Result.{IsErrAnd, IsErrOf}
use Rattle.std.proofs.lemmas.Bool.{cases_eq}
use Rattle.std.proofs.lemmas.Option.{slice_get_within}
use Rattle.actor_operations.specs.Entries.{ActionTells, FindsFullLog, board_of}
use Rattle.actor_operations.specs.Operations.{BoardTells, ChangesOne, FindsFullBoard, IsOpenIn, IsPlayable, OperationTells, order_to}
use Rattle.actor_operations.specs.declared.stop.Stop.{Stop}
use Rattle.actor_operations.specs.declared.stop.Stop.TheVariants.{LogFull, NoMemory}
use Rattle.board.specs.History.{entries_of as board_entries_of, log_of}
use Rattle.board_history.specs.declared.entry.BoardEntry.{BoardEntry}
use Rattle.board_history.specs.declared.entry.Order.{Order}
use Rattle.board_history.specs.declared.entry.Order.TheVariants as order
use Rattle.domains.specs.Drive.{Drive}
use Rattle.domains.specs.Shape.{Shape}
use Rattle.domains.specs.declared.by.By.{By}
use Rattle.fabric.specs.Accounts.{Holds, Stays}
use Rattle.fabric.specs.Cells.{FabricView}
use Rattle.fabric.specs.declared.hand.Hand.{Hand}
use Rattle.file_cells.specs.FileEnds.{logs_of_files}
use Rattle.file_cells.specs.OpenFiles.{entries_of, state_of}
use Rattle.file_cells.specs.declared.open_file.OpenFile.{OpenFile}
use Rattle.file_core.specs.Accounts.{units_at}
use Rattle.file_core.specs.FileView.{layout_of}
use Rattle.file_core.specs.Notes.{told_of}
use Rattle.file_core.specs.declared.chronicle.FileTerms.{FileTerms}
use Rattle.file_core.specs.declared.noted.Noted.{Noted}
use Rattle.file_history.specs.Layout.{Layout, all_groups, layout_after, places_of}
use Rattle.file_turns.specs.PathAccounts.{on_drive}
use Rattle.file_turns.specs.PathRoom.{entries_of_path}
use Rattle.flex_io.specs.declared.raw_place.RawPlace.{RawPlace}
use Rattle.legal_runs.specs.Entries.{IsLegalBoard}
use Rattle.legal_runs.specs.Operations.{IsOrderOf, op_at}
use Rattle.noted_runs.specs.NotedRuns.{AreNotesIn}
use Rattle.operation_text.specs.declared.named_op.DriveOrder.{DriveOrder}
use Rattle.operation_text.specs.declared.named_op.DriveOrder.TheVariants as drive_order
use Rattle.operation_text.specs.declared.named_op.FileAction.{FileAction}
use Rattle.serial_order.specs.SerialOrder.{AreAscending, is_earlier}
use Rattle.serial_runs.specs.SerialLogs.{AreSerialLogs, is_for_board, is_for_file}
use Rattle.serial_runs.proofs.OrderedOperations.{all-at}
use Rattle.serial_runs.proofs.SerialGrowth.{get-set, get-set-other}
use Rattle.turn_cell.specs.declared.chronicle.Note.{Note}
use Rattle.whole_scenario.specs.declared.op.Op.{Op}
use Rattle.whole_scenario.specs.declared.op.Op.TheVariants as op
use Rattle.whole_scenario.specs.declared.whole.Scenario.{Scenario}
use Rattle.serial_play.specs.PlayedRuns.{AreOwn, IsPlayed, IsPlayedFile, IsStoppedFull, LacksRoom, PlaysNext, file_units, log_room}
use Rattle.serial_play.proofs.FileUnits.{beside}
use Rattle.serial_play.proofs.PlayedActions.{all-set, element_within, length-set, played_action}
use Rattle.serial_play.proofs.PlayedOrders.{played_order}

-- what is done is earlier than what is next
pub done-earlier : (done : List By) (next : By) (rest : List By) → AreAscending (done ++ next ∷ rest) → AllByRecursion (λ (x : By). is_earlier x next ≡ true) done
done-earlier [] next rest up = tt
done-earlier (b ∷ bs) next rest up = (among bs up.0, done-earlier bs next rest up.1)
  where
    among : (xs : List By) → AllByRecursion (λ (later : By). is_earlier b later ≡ true) (xs ++ next ∷ rest) → is_earlier b next ≡ true
    among [] all = all.0
    among (x ∷ xs) all = among xs all.1

among_same : {A B : Type 0} (g : A → B) (xs : List A) (i : ℕ) (was is : A) → slice_get xs i ≡ Some was → g is ≡ g was → map g (slice_set xs i is) ≡ map g xs
among_same g [] i was is there same = refl
among_same g (x ∷ xs) zero was is there same = ap (λ y. y ∷ map g xs) (same ∙ ap g (ap (λ (o : Option _). unwrap_or o was) (sym there)))
among_same g (x ∷ xs) (suc i) was is there same = ap (λ l. g x ∷ l) (among_same g xs i was is there same)

order_is : (o : DriveOrder) (d : Drive) → IsOrderOf (op.OnDrive o d) (order_to o d)
order_is drive_order.Fail d = refl
order_is drive_order.Down d = refl
order_is drive_order.Up d = refl

-- a stop that is handed on
pub same-stop : {T : Type 0} (r : Result T Stop) (e : Stop) → IsErrAnd r (λ f. f ≡ e) → IsErrOf r LogFull → e ≡ LogFull
same-stop (Ok y) e same failed = absurd same
same-stop (Err f) e same failed = sym same ∙ (let is : f ≡ LogFull = cc in is)

-- the answer of an operation that has no entry
abbrev pub ended : (T : Type 0) → Stop → Result T Stop
ended T stop = Err stop

module _ {S : Type 0} (place_of : S → RawPlace) (content : S → Option (List ℕ)) (len_of : S → ℕ) where
  -- files stay open
  pub open_after : {T : Type 0} (result : Result T Stop) (f : FabricView) (shape : Shape) (count : ℕ) (operation : Op) (by : By) (files after : List (OpenFile S)) (old new : Hand S)
      → IsPlayable shape count operation → OperationTells place_of content len_of result f operation by files after old new → AllByRecursion (IsOpenIn shape) files
      → AllByRecursion (IsOpenIn shape) after
  open_after result f shape count (op.OnFile file a) by files after old new playable tells all =
      subst (AllByRecursion (IsOpenIn shape)) (sym tells.changed)
      (all-set (IsOpenIn shape) files file tells.is all
      (record {
        open_ = tells.open_;
        shape_is = ap (λ (t : FileTerms). t.shape) tells.terms ∙ (all-at (IsOpenIn shape) files file tells.was all tells.there).shape_is;
      }))
  open_after result f shape count (op.OnDrive o drive) by files after old new playable tells all = subst (AllByRecursion (IsOpenIn shape)) (sym tells.0) all
  open_after result f shape count (op.FailNode node) by files after old new playable tells all = subst (AllByRecursion (IsOpenIn shape)) (sym tells.0) all
  open_after result f shape count (op.Start kind job priority) by files after old new playable tells all = absurd playable
  open_after result f shape count (op.OnJob o job) by files after old new playable tells all = absurd playable
  open_after result f shape count (op.Work steps) by files after old new playable tells all = absurd playable
  open_after result f shape count op.Drain by files after old new playable tells all = absurd playable
  open_after result f shape count op.RestartEngine by files after old new playable tells all = absurd playable

  module _ (s : Scenario) (done : List By) (f : FabricView) (files after : List (OpenFile S)) (old new : Hand S) (by : By) (played : IsPlayed place_of content len_of s done files old)
      (shape : f.shape ≡ s.shape) (board_shape : (board_of old).shape ≡ s.shape) (earlier : AllByRecursion (λ (x : By). is_earlier x by ≡ true) done) where
    -- an action that finds its log full leaves the run as it was
    full_action : (file : ℕ) (action : FileAction) → file < length s.files → (changes : ChangesOne place_of content len_of file (λ x y. FindsFullLog x y old new) files after)
        → IsPlayed place_of content len_of s done after new × LacksRoom (op.OnFile file action) after new
    full_action file action below changes =
        let was = changes.was in
        let is = changes.is in
        let did = changes.did in
        let room : (state_of is).room ≡ (state_of was).room = ap (λ (t : FileTerms). t.room) changes.terms in
        let has : (state_of was).room ≡ log_room = (played.each file (element_within s.files file below).0 was (element_within s.files file below).1 changes.there).room_is in
        let level : (state_of is).level ≡ (state_of was).level = ap (λ (t : FileTerms). t.level) changes.terms in
        let layout : layout_of (state_of is) ≡ layout_of (state_of was) = λ i. layout_after (level i) (told_of (did.notes i)) in
        let path : entries_of_path (state_of is) ≡ entries_of_path (state_of was) = ap (λ (l : Layout). length (places_of (all_groups l)) + 4) layout in
        let longer : length (state_of is).notes ≡ length (state_of was).notes = ap length did.notes in
        let full = did.full in
        let low = slice_get_within files file was changes.there in
        let logs : logs_of_files (slice_set files file is) ≡ logs_of_files files =
        among_same (λ (x : OpenFile S). entries_of (state_of x)) files file was is changes.there (ap (map (λ (n : Note Noted). n.entry.told.entry)) did.notes) in
        let here : IsPlayed place_of content len_of s done (slice_set files file is) new × LacksRoom (op.OnFile file action) (slice_set files file is) new = (
          subst (IsPlayed place_of content len_of s done (slice_set files file is)) (sym did.hand) (record {
            many = length-set files file is ∙ played.many;
            open_ = all-set (IsOpenIn s.shape) files file is played.open_
                (record { open_ = changes.open_; shape_is = ap (λ (t : FileTerms). t.shape) changes.terms ∙ (all-at (IsOpenIn s.shape) files file was played.open_ changes.there).shape_is });
            each = λ number d g is_d at. elim (cases_eq number file) [
              | inl same ↦
                  let found : is ≡ g = ap (λ (o : Option (OpenFile S)). unwrap_or o is) (sym (get-set files file is low) ∙ ap (slice_get (slice_set files file is)) (sym same) ∙ at) in
                  let before = played.each number d was is_d (ap (slice_get files) same ∙ changes.there) in
                  let one : IsPlayedFile place_of content len_of s (log_of (board_of old)) number d (state_of is) = record {
                    file = changes.file_is;
                    shape_is = ap (λ (t : FileTerms). t.shape) changes.terms ∙ before.shape_is;
                    level_is = level ∙ before.level_is;
                    room_is = room ∙ before.room_is;
                    own = subst AreOwn (sym did.notes) before.own;
                    notes = subst (AreNotesIn s (log_of (board_of old)) number) (sym did.notes) before.notes;
                  } in
                  subst (λ (x : OpenFile S). IsPlayedFile place_of content len_of s (log_of (board_of old)) number d (state_of x)) found one
              | inr apart ↦ played.each number d g is_d (sym (get-set-other files file number is apart) ∙ at)
            ];
            board_room = played.board_room;
            orders = played.orders;
            serial = subst (AreSerialLogs s done (log_of (board_of old))) (sym logs) played.serial;
            account = λ d of.
                let at = beside d files file was changes.there in
                let units : file_units d (state_of is) ≡ file_units d (state_of was) = ap (λ (l : Layout). units_at (on_drive d) (all_groups l)) layout in
                subst (λ (n : ℕ). Holds s.shape d n old) (at.all ∙ ap (λ (n : ℕ). n + at.others) (sym units) ∙ sym (at.after is)) (played.account d of);
          }),
          (is, get-set files file is low, omega (arith, has, path, longer, full)),
        ) in
        subst (λ (l : List (OpenFile S)). IsPlayed place_of content len_of s done l new × LacksRoom (op.OnFile file action) l new) (sym changes.changed) here

    action_next : {T : Type 0} (result : Result T Stop) (file : ℕ) (action : FileAction) → op_at s by ≡ Some (op.OnFile file action) → file < length s.files
        → ChangesOne place_of content len_of file (λ x y. ActionTells result f action by 0 x y old new) files after
        → PlaysNext place_of content len_of result s done by (op.OnFile file action) after new
    action_next (Ok ended) file action known below changes =
        subst (λ (l : List (OpenFile S)). IsPlayed place_of content len_of s (done ++ by ∷ []) l new) (sym changes.changed)
        (played_action place_of content len_of s done f files old new by file action played known below shape board_shape earlier changes.was changes.is changes.there changes.open_ changes.terms
        changes.file_is changes.did)
    action_next (Err LogFull) file action known below changes =
        full_action file action below (record {
          was = changes.was;
          is = changes.is;
          there = changes.there;
          changed = changes.changed;
          open_ = changes.open_;
          terms = changes.terms;
          file_is = changes.file_is;
          did = changes.did;
        })
    action_next (Err NoMemory) file action known below changes = tt

    -- an order that finds the board's log full
    full_order : FindsFullBoard f old new → IsPlayed place_of content len_of s done files new
    full_order did =
        let same : log_of (board_of new) ≡ log_of (board_of old) = ap board_entries_of did.notes in
        record {
          many = played.many;
          open_ = played.open_;
          each = λ number d g is_d at. subst (λ (l : List BoardEntry). IsPlayedFile place_of content len_of s l number d (state_of g)) (sym same) (played.each number d g is_d at);
          board_room = did.room ∙ played.board_room;
          orders = subst (IsLegalBoard s) (sym same) played.orders;
          serial = subst (λ (l : List BoardEntry). AreSerialLogs s done l (logs_of_files files)) (sym same) played.serial;
          account = λ d of. subst (λ (x : Shape). Stays x old new) shape did.held d _ of (played.account d of);
        }

    order_next : {T : Type 0} (result : Result T Stop) (operation : Op) (order : Order) → op_at s by ≡ Some operation → IsOrderOf operation order → is_for_board operation ≡ true
        → ((file : ℕ) → is_for_file file operation ≡ false) → (log_room < length (board_of new).notes + 1 → LacksRoom operation after new) → after ≡ files
        → BoardTells result f order by old new → PlaysNext place_of content len_of result s done by operation after new
    order_next (Ok ended) operation order known fits for_board for_file lacks same did =
        subst (λ (l : List (OpenFile S)). IsPlayed place_of content len_of s (done ++ by ∷ []) l new) (sym same)
        (played_order place_of content len_of s done f files old new by operation order played known fits for_board for_file shape board_shape earlier did)
    order_next (Err LogFull) operation order known fits for_board for_file lacks same did =
        let full = did.full in
        let has = played.board_room in
        let longer : length (board_of new).notes ≡ length (board_of old).notes = ap length did.notes in (
          subst (λ (l : List (OpenFile S)). IsPlayed place_of content len_of s done l new) (sym same) (full_order did),
          lacks (omega (arith, full, has, longer)),
        )
    order_next (Err NoMemory) operation order known fits for_board for_file lacks same did = tt

    -- the next operation, whichever it is
    pub plays_next : {T : Type 0} (result : Result T Stop) (operation : Op) → op_at s by ≡ Some operation → IsPlayable s.shape (length s.files) operation
        → OperationTells place_of content len_of result f operation by files after old new → PlaysNext place_of content len_of result s done by operation after new
    plays_next result (op.OnFile file a) known playable tells = action_next result file a known playable.0 tells
    plays_next result (op.OnDrive o drive) known playable tells =
        order_next result (op.OnDrive o drive) (order_to o drive) known (order_is o drive) refl (λ _. refl) (λ lacks. lacks) tells.0 tells.1
    plays_next result (op.FailNode node) known playable tells = order_next result (op.FailNode node) (order.FailNode node) known refl refl (λ _. refl) (λ lacks. lacks) tells.0 tells.1
    plays_next result (op.Start kind job priority) known playable tells = absurd playable
    plays_next result (op.OnJob o job) known playable tells = absurd playable
    plays_next result (op.Work steps) known playable tells = absurd playable
    plays_next result op.Drain known playable tells = absurd playable
    plays_next result op.RestartEngine known playable tells = absurd playable

  -- the run stops at an operation whose log is full
  pub stopped-full : (s : Scenario) (order done : List By) (next : By) (rest : List By) (operation : Op) (files : List (OpenFile S)) (hand : Hand S) (stop : Stop) (T : Type 0)
      → order ≡ done ++ next ∷ rest → op_at s next ≡ Some operation → PlaysNext place_of content len_of (ended T stop) s done next operation files hand → stop ≡ LogFull
      → IsStoppedFull place_of content len_of s order files hand
  stopped-full s order done next rest operation files hand LogFull T split known plays same =
      record { done = done; next = next; rest = rest; split = split; played = plays.0; operation = operation; is = known; full = plays.1 }
  stopped-full s order done next rest operation files hand NoMemory T split known plays same = absurd (cc)
