-- An action on a file, which is done with its entry.
use Rattle.std.proofs.Common.{inl, inr, ◌≡◌, ◌≢◌, ℕ, zero, suc, ◌<◌, true, false, List, [], ◌∷◌, ◌++◌, length, map, Option, Some, slice_get, refl, sym, ap, subst, ◌∙◌, arith}
use Rattle.std.specs.Prelude.{slice_set, unwrap_or}
use Rattle.std.specs.List.{AllByRecursion}
use Rattle.std.specs.Option.{option_map, option_map_or}
use Rattle.std.proofs.lemmas.Bool.{cases_eq, eq-eqb, ne_eqb}
use Rattle.std.proofs.lemmas.List.{map-append}
use Rattle.std.proofs.lemmas.Option.{slice_get-map, slice_get_within}
use Rattle.actor_operations.specs.Entries.{DoesAction, IsEntryOf, board_of}
use Rattle.actor_operations.specs.Operations.{IsOpenIn}
use Rattle.board.specs.History.{History, entries_of as board_entries_of, log_of}
use Rattle.board_history.specs.Board.{gone_after, up_after}
use Rattle.board_history.specs.declared.entry.BoardEntry.{BoardEntry}
use Rattle.domains.specs.Drive.{Drive}
use Rattle.domains.specs.DriveSet.{has}
use Rattle.domains.specs.Shape.{IsShape, Shape, is_of}
use Rattle.domains.specs.declared.by.By.{By}
use Rattle.domains.proofs.ShapeLemmas.{IsDrive-of}
use Rattle.fabric.specs.Accounts.{Holds}
use Rattle.fabric.specs.Cells.{FabricView}
use Rattle.fabric.specs.declared.hand.Hand.{Hand}
use Rattle.file_cells.specs.FileEnds.{logs_of_files}
use Rattle.file_cells.specs.OpenFiles.{IsOpen, entries_of, state_of}
use Rattle.file_cells.specs.declared.open_file.OpenFile.{OpenFile}
use Rattle.file_core.specs.FileView.{IsFile}
use Rattle.file_core.specs.declared.chronicle.FileTerms.{FileTerms}
use Rattle.file_core.specs.declared.noted.Noted.{Noted}
use Rattle.file_history.specs.declared.entry.FileEntry.{FileEntry}
use Rattle.file_history.specs.declared.entry.FileEvent.{FileEvent}
use Rattle.file_history.specs.declared.entry.FileEvent.TheVariants as event
use Rattle.file_history.specs.declared.entry.NotedEntry.{NotedEntry}
use Rattle.file_history.specs.declared.view.EpochView.{EpochView}
use Rattle.file_turns.specs.FileTurns.{terms_of}
use Rattle.file_turns.specs.PathAccounts.{KeepsAccount}
use Rattle.flex_io.specs.declared.raw_place.RawPlace.{RawPlace}
use Rattle.legal_runs.specs.Actors.{is_operation_entry}
use Rattle.legal_runs.specs.Entries.{IsLegalBoard}
use Rattle.legal_runs.specs.Operations.{AnswersAction, AnswersOp, FitsEvent, op_at, payload_of}
use Rattle.noted_runs.specs.NotedRuns.{AreNotesIn, IsNoteIn}
use Rattle.operation_text.specs.declared.named_op.FileAction.{FileAction}
use Rattle.scenario.specs.declared.scenario.FileDecl.{FileDecl}
use Rattle.serial_order.specs.SerialOrder.{is_earlier}
use Rattle.serial_runs.specs.SerialLogs.{AreSerialLogs, at_board, at_file, is_for_board, is_for_file}
use Rattle.serial_runs.proofs.SerialGrowth.{get-set, get-set-other, with_action}
use Rattle.turn_cell.specs.declared.chronicle.Note.{Note}
use Rattle.whole_scenario.specs.declared.op.Op.{Op}
use Rattle.whole_scenario.specs.declared.op.Op.TheVariants as op
use Rattle.whole_scenario.specs.declared.whole.Scenario.{Scenario}
use Rattle.serial_play.specs.PlayedRuns.{AreOwn, IsPlayed, IsPlayedFile, units_on}
use Rattle.serial_play.proofs.FileUnits.{beside, keeps-units}

pub all-push : {A : Type 0} (P : A → Type 0) (xs : List A) (x : A) → AllByRecursion P xs → P x → AllByRecursion P (xs ++ x ∷ [])
all-push P [] x all is = (is, tt)
all-push P (y ∷ ys) x all is = (all.0, all-push P ys x all.1 is)

pub all-set : {A : Type 0} (P : A → Type 0) (xs : List A) (i : ℕ) (x : A) → AllByRecursion P xs → P x → AllByRecursion P (slice_set xs i x)
all-set P [] i x all is = tt
all-set P (y ∷ ys) zero x all is = (is, all.1)
all-set P (y ∷ ys) (suc i) x all is = (all.0, all-set P ys i x all.1 is)

pub length-set : {A : Type 0} (xs : List A) (i : ℕ) (x : A) → length (slice_set xs i x) ≡ length xs
length-set [] i x = refl
length-set (y ∷ ys) zero x = refl
length-set (y ∷ ys) (suc i) x = ap suc (length-set ys i x)

pub map-set : {A B : Type 0} (f : A → B) (xs : List A) (i : ℕ) (x : A) → map f (slice_set xs i x) ≡ slice_set (map f xs) i (f x)
map-set f [] i x = refl
map-set f (y ∷ ys) zero x = refl
map-set f (y ∷ ys) (suc i) x = ap (λ l. f y ∷ l) (map-set f ys i x)

-- the entry of an action is one that its operation has
fits : (s : Scenario) (file : ℕ) (action : FileAction) (e : FileEntry) (t : FileEvent) → AnswersOp s file e → AnswersAction action t → FitsEvent s file e t
fits s file action e (event.Created inode) is answers = is
fits s file action e event.Deleted is answers = is
fits s file action e (event.Written offset len size change) is answers = is
fits s file action e (event.Shown offset len bytes) is answers = is
fits s file action e (event.LevelSet level) is answers = is
fits s file action e (event.Placed job change) is answers = absurd answers
fits s file action e (event.Dead generation position) is answers = absurd answers
fits s file action e (event.Barred job drives) is answers = absurd answers
fits s file action e (event.Cleared job drives) is answers = absurd answers
fits s file action e (event.Marked job count) is answers = absurd answers
fits s file action e (event.Refused why) is answers = is

counts : (action : FileAction) (t : FileEvent) → AnswersAction action t → is_operation_entry t ≡ true
counts action (event.Created inode) answers = refl
counts action event.Deleted answers = refl
counts action (event.Written offset len size change) answers = refl
counts action (event.Shown offset len bytes) answers = refl
counts action (event.LevelSet level) answers = refl
counts action (event.Placed job change) answers = absurd answers
counts action (event.Dead generation position) answers = absurd answers
counts action (event.Barred job drives) answers = absurd answers
counts action (event.Cleared job drives) answers = absurd answers
counts action (event.Marked job count) answers = absurd answers
counts action (event.Refused why) answers = refl

-- the place of an operation on a file
module _ (s : Scenario) (by : By) (file : ℕ) (action : FileAction) (known : op_at s by ≡ Some (op.OnFile file action)) where
  off_board : at_board s by ≡ false
  off_board = ap (λ (o : Option Op). option_map_or is_for_board o false) known

  in_file : at_file s file by ≡ true
  in_file = ap (λ (o : Option Op). option_map_or (is_for_file file) o false) known ∙ eq-eqb file file refl

  in_others : (other : ℕ) → other ≢ file → at_file s other by ≡ false
  in_others other apart = ap (λ (o : Option Op). option_map_or (is_for_file other) o false) known ∙ ne_eqb file other (λ same. apart (sym same))

  -- the entry that the action notes is one of the run
  pub note-in : (h : History) (n : Noted) → IsShape s.shape → h.shape ≡ s.shape → IsEntryOf action by h n → IsNoteIn s (log_of h) file n
  note-in h n shape same is =
      let view = is.view in
      let kept : n.view.epoch ≡ view.epoch = ap (λ (v : EpochView). v.epoch) is.kept in
      let reached = is.shows.epoch in
      let by_is : op_at s n.told.entry.by ≡ Some (op.OnFile file action) = ap (op_at s) is.author ∙ known in
      let pays : n.told.payload ≡ option_map_or payload_of (op_at s n.told.entry.by) [] = is.payload ∙ sym (ap (λ (o : Option Op). option_map_or payload_of o []) by_is) in
      record {
        reached = omega (arith, kept, reached);
        shows = record {
          up = λ d of. ap (λ (v : EpochView). has v.up d) is.kept ∙ is.shows.up d (IsDrive-of s.shape d shape of)
              ∙ (λ i. up_after (same i) (log_of h) (sym kept i) d);
          gone = λ d of. ap (λ (v : EpochView). has v.gone d) is.kept ∙ is.shows.gone d (IsDrive-of s.shape d shape of)
              ∙ (λ i. gone_after (same i) (log_of h) (sym kept i) d);
        };
        told = ap (λ (p : List ℕ). let t : NotedEntry = record { entry = n.told.entry; payload = p } in t) pays;
        fits = fits s file action n.told.entry n.told.entry.event (record { operation = op.OnFile file action; known = by_is; answers = (refl, is.answers) }) is.answers;
      }

-- the element at a place within a list
pub element_within : {A : Type 0} (xs : List A) (i : ℕ) → i < length xs → (x : A) × (slice_get xs i ≡ Some x)
element_within [] i within = absurd (omega (arith, within))
element_within (x ∷ xs) zero within = (x, refl)
element_within (x ∷ xs) (suc i) within = element_within xs i (omega (arith, within))

pub length-map : {A B : Type 0} (g : A → B) (xs : List A) → length (map g xs) ≡ length xs
length-map g [] = refl
length-map g (x ∷ xs) = ap suc (length-map g xs)

abbrev log_in : {S : Type 0} → OpenFile S → List FileEntry
log_in f = entries_of (state_of f)

module _ {S : Type 0} (place_of : S → RawPlace) (content : S → Option (List ℕ)) (len_of : S → ℕ) (s : Scenario) (done : List By) (f : FabricView) (files : List (OpenFile S))
    (old new : Hand S) (by : By) (file : ℕ) (action : FileAction) (played : IsPlayed place_of content len_of s done files old) (known : op_at s by ≡ Some (op.OnFile file action))
    (below : file < length s.files) (shape : f.shape ≡ s.shape) (board_shape : (board_of old).shape ≡ s.shape)
    (earlier : AllByRecursion (λ (x : By). is_earlier x by ≡ true) done) (was is : OpenFile S) (there : slice_get files file ≡ Some was)
    (open_ : IsOpen is) (terms : terms_of (state_of is) ≡ terms_of (state_of was)) (file_is : IsFile place_of content len_of (state_of is))
    (did : DoesAction f action by 0 (state_of was) (state_of is) old new) where
  declared : (d : FileDecl) × (slice_get s.files file ≡ Some d)
  declared = element_within s.files file below

  before : IsPlayedFile place_of content len_of s (log_of (board_of old)) file declared.0 (state_of was)
  before = played.each file declared.0 was declared.1 there

  board_same : log_of (board_of new) ≡ log_of (board_of old)
  board_same = ap board_entries_of did.board

  abbrev note : Note Noted
  note = record { turn = did.entry.turn; seat = 0; entry = did.entry.entry }

  noted : IsNoteIn s (log_of (board_of old)) file did.entry.entry
  noted = note-in s by file action known (board_of old) did.entry.entry (subst IsShape before.shape_is before.file.cluster) board_shape did.entry.is

  own : AreOwn (state_of is).notes
  own = subst AreOwn (sym did.entry.notes) (all-push (λ (n : Note Noted). n.seat ≡ 0) (state_of was).notes note before.own refl)

  notes : AreNotesIn s (log_of (board_of old)) file (state_of is).notes
  notes = subst (AreNotesIn s (log_of (board_of old)) file) (sym did.entry.notes)
      (all-push (λ (n : Note Noted). IsNoteIn s (log_of (board_of old)) file n.entry) (state_of was).notes note before.notes noted)

  after : (number : ℕ) (d : FileDecl) → number ≡ file → slice_get s.files number ≡ Some d → IsPlayedFile place_of content len_of s (log_of (board_of old)) number d (state_of is)
  after number d same is_d =
      let one : declared.0 ≡ d = ap (λ (o : Option FileDecl). unwrap_or o d) (sym declared.1 ∙ ap (slice_get s.files) (sym same) ∙ is_d) in
      record {
        file = file_is;
        shape_is = ap (λ (t : FileTerms). t.shape) terms ∙ before.shape_is;
        level_is = ap (λ (t : FileTerms). t.level) terms ∙ before.level_is ∙ ap (λ (x : FileDecl). x.level) one;
        room_is = ap (λ (t : FileTerms). t.room) terms ∙ before.room_is;
        own = own;
        notes = subst (λ (k : ℕ). AreNotesIn s (log_of (board_of old)) k (state_of is).notes) (sym same) notes;
      }

  log_more : log_in is ≡ log_in was ++ did.entry.entry.told.entry ∷ []
  log_more = ap (map (λ (n : Note Noted). n.entry.told.entry)) did.entry.notes ∙ map-append (λ (n : Note Noted). n.entry.told.entry) (state_of was).notes (note ∷ [])

  logs_more : logs_of_files (slice_set files file is) ≡ slice_set (logs_of_files files) file (log_in was ++ did.entry.entry.told.entry ∷ [])
  logs_more = map-set log_in files file is ∙ ap (slice_set (logs_of_files files) file) log_more

  is_log : slice_get (logs_of_files files) file ≡ Some (log_in was)
  is_log = slice_get-map log_in files file ∙ ap (λ (o : Option (OpenFile S)). option_map log_in o) there

  serial : AreSerialLogs s (done ++ by ∷ []) (log_of (board_of old)) (slice_set (logs_of_files files) file (log_in was ++ did.entry.entry.told.entry ∷ []))
  serial =
      let e = did.entry.entry.told.entry in
      let author : e.by ≡ by = did.entry.is.author in
      subst (λ (b : By). AreSerialLogs s (done ++ b ∷ []) (log_of (board_of old)) (slice_set (logs_of_files files) file (log_in was ++ e ∷ []))) author
      (with_action s done (log_of (board_of old)) (logs_of_files files) played.serial file (log_in was) e is_log
      (ap (at_board s) author ∙ off_board s by file action known) (ap (at_file s file) author ∙ in_file s by file action known)
      (λ other apart. ap (at_file s other) author ∙ in_others s by file action known other apart)
      (subst (λ (b : By). AllByRecursion (λ (x : By). is_earlier x b ≡ true) done) (sym author) earlier)
      (counts action e.event did.entry.is.answers)
      (did.entry.is.epoch ∙ sym (length-map (λ (n : Note BoardEntry). n.entry) (board_of old).notes)))

  account : (d : Drive) → is_of s.shape d ≡ true → Holds s.shape d (units_on d (slice_set files file is)) new
  account d of =
      let at = beside d files file was there in
      subst (λ (n : ℕ). Holds s.shape d n new) (sym (at.after is))
      (keeps-units s.shape d (state_of was) (state_of is) old new at.others of (subst (λ (x : Shape). KeepsAccount x 0 (state_of was) (state_of is) old new) shape did.account) before.own own
      (subst (λ (n : ℕ). Holds s.shape d n old) at.all (played.account d of)))

  pub played_action : IsPlayed place_of content len_of s (done ++ by ∷ []) (slice_set files file is) new
  played_action =
      let same = board_same in
      record {
        many = length-set files file is ∙ played.many;
        open_ = all-set (IsOpenIn s.shape) files file is played.open_ (record { open_ = open_; shape_is = ap (λ (t : FileTerms). t.shape) terms ∙ before.shape_is });
        each = λ number d g is_d at. subst (λ (l : List BoardEntry). IsPlayedFile place_of content len_of s l number d (state_of g)) (sym same) (elim (cases_eq number file) [
          | inl here ↦
              let low : file < length files = slice_get_within files file was there in
              let found : is ≡ g = ap (λ (o : Option (OpenFile S)). unwrap_or o is) (sym (get-set files file is low) ∙ ap (slice_get (slice_set files file is)) (sym here) ∙ at) in
              subst (λ (x : OpenFile S). IsPlayedFile place_of content len_of s (log_of (board_of old)) number d (state_of x)) found (after number d here is_d)
          | inr apart ↦ played.each number d g is_d (sym (get-set-other files file number is apart) ∙ at)
        ]);
        board_room = did.room ∙ played.board_room;
        orders = subst (IsLegalBoard s) (sym same) played.orders;
        serial = subst (λ (l : List (List FileEntry)). AreSerialLogs s (done ++ by ∷ []) (log_of (board_of new)) l) (sym logs_more)
            (subst (λ (l : List BoardEntry). AreSerialLogs s (done ++ by ∷ []) l (slice_set (logs_of_files files) file (log_in was ++ did.entry.entry.told.entry ∷ []))) (sym same) serial);
        account = account;
      }
