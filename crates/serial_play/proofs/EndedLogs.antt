-- The logs of a run that was played to its end, or to a full log.
use Rattle.std.proofs.Common.{◌≡◌, ℕ, ◌+◌, List, [], length, Option, Some, slice_get, sym, ap, subst, ◌∙◌, arith}
use Rattle.std.specs.Option.{option_map}
use Rattle.std.proofs.lemmas.Option.{slice_get-map, slice_get_within}
use Rattle.actor_operations.specs.Entries.{board_of}
use Rattle.actor_operations.specs.Operations.{IsPlayable}
use Rattle.board.specs.History.{log_of}
use Rattle.board_history.specs.declared.entry.BoardEntry.{BoardEntry}
use Rattle.domains.specs.Level.{Level}
use Rattle.domains.specs.Shape.{Shape}
use Rattle.domains.specs.declared.by.By.{By}
use Rattle.fabric.specs.declared.hand.Hand.{Hand}
use Rattle.file_cells.specs.FileEnds.{logs_of_files}
use Rattle.file_cells.specs.OpenFiles.{entries_of, state_of}
use Rattle.file_cells.specs.declared.open_file.OpenFile.{OpenFile}
use Rattle.file_core.specs.Notes.{AreNotedSteps}
use Rattle.file_core.specs.declared.noted.Noted.{Noted}
use Rattle.file_history.specs.Layout.{Layout, all_groups, places_of}
use Rattle.file_history.specs.declared.entry.FileEntry.{FileEntry}
use Rattle.flex_io.specs.declared.raw_place.RawPlace.{RawPlace}
use Rattle.noted_runs.specs.NotedRuns.{AreLegalFilesWhere, IsLegalFileWhere}
use Rattle.noted_runs.proofs.NotedEntries.{noted_files_are_legal}
use Rattle.scenario.specs.declared.scenario.FileDecl.{FileDecl}
use Rattle.serial_runs.specs.SerialLogs.{AreSerialLogs, HasLog}
use Rattle.serial_runs.proofs.SerialScripts.{serial_logs_keep}
use Rattle.striped_groups.specs.StoredGroups.{AllTell}
use Rattle.turn_cell.specs.declared.chronicle.Note.{Note}
use Rattle.whole_scenario.specs.declared.op.Op.{Op}
use Rattle.whole_scenario.specs.declared.op.Op.TheVariants as op
use Rattle.whole_scenario.specs.declared.whole.Scenario.{Scenario}
use Rattle.serial_play.specs.PlayedRuns.{IsPlayableScenario, IsPlayed, IsStoppedFull, LacksRoom}
use Rattle.serial_play.specs.RunEnds.{IsFullFor, IsFullRun, IsSerialRun, order_of}
use Rattle.serial_play.proofs.EndedSlots.{image-at, layout-is}
use Rattle.serial_play.proofs.PlayedActions.{element_within, length-map}
use Rattle.serial_play.proofs.ScriptPlaces.{playable-at}

-- an operation that can be played has a log
has-log : (shape : Shape) (files : ℕ) (operation : Op) → IsPlayable shape files operation → HasLog files operation
has-log shape files (op.OnFile file action) is = is.0
has-log shape files (op.OnDrive order drive) is = tt
has-log shape files (op.FailNode node) is = tt
has-log shape files (op.Start kind job priority) is = absurd is
has-log shape files (op.OnJob order job) is = absurd is
has-log shape files (op.Work steps) is = absurd is
has-log shape files op.Drain is = absurd is
has-log shape files op.RestartEngine is = absurd is

module _ {S : Type 0} (place_of : S → RawPlace) (content : S → Option (List ℕ)) (len_of : S → ℕ) where
  module _ (s : Scenario) (done : List By) (files : List (OpenFile S)) (hand : Hand S) (played : IsPlayed place_of content len_of s done files hand) (logs : List (List FileEntry))
      (logs_are : logs ≡ logs_of_files files) where
    -- the file whose log this is
    file-at : (file : ℕ) (f : FileDecl) (log : List FileEntry) → slice_get s.files file ≡ Some f → slice_get logs file ≡ Some log
        → (g : OpenFile S) × (slice_get files file ≡ Some g) × (entries_of (state_of g) ≡ log)
    file-at file f log is_f is_log =
        let low = slice_get_within s.files file f is_f in
        let many = played.many in
        let g = element_within files file (omega (arith, low, many)) in (
          g.0,
          g.1,
          image-at (λ (x : OpenFile S). entries_of (state_of x)) files file g.0 log g.1 (ap (λ (l : List (List FileEntry)). slice_get l file) (sym logs_are) ∙ is_log),
        )

    entries-legal : AreLegalFilesWhere (AllTell content) s (log_of (board_of hand)) logs
    entries-legal file f log is_f is_log =
        let g = file-at file f log is_f is_log in
        let is = played.each file f g.0 is_f g.1 in
        let notes = (state_of g.0).notes in
        let steps : AreNotedSteps notes (AllTell content) s.shape f.level [] =
        subst (λ (l : Level). AreNotedSteps notes (AllTell content) s.shape l []) is.level_is (subst (λ (x : Shape). AreNotedSteps notes (AllTell content) x (state_of g.0).level []) is.shape_is is.file.legal) in
        subst (IsLegalFileWhere (AllTell content) s (log_of (board_of hand)) f file) g.2 (noted_files_are_legal content s (log_of (board_of hand)) f file notes steps is.notes)

    logs-many : length logs ≡ length s.files
    logs-many = ap length logs_are ∙ length-map (λ (x : OpenFile S). entries_of (state_of x)) files ∙ played.many

    serial : AreSerialLogs s done (log_of (board_of hand)) logs
    serial = subst (AreSerialLogs s done (log_of (board_of hand))) (sym logs_are) played.serial

    full-for : (operation : Op) → IsPlayable s.shape (length s.files) operation → LacksRoom operation files hand → IsFullFor s operation (log_of (board_of hand)) logs
    full-for (op.OnFile file action) can lacks =
        let g = lacks.0 in
        let d = element_within s.files file can.0 in
        let is = played.each file d.0 g d.1 lacks.1 in
        let long : length (entries_of (state_of g)) ≡ length (state_of g).notes = length-map (λ (n : Note Noted). n.entry.told.entry) (state_of g).notes in
        let layout = ap (λ (l : Layout). length (places_of (all_groups l)) + 4) (layout-is place_of content len_of s (log_of (board_of hand)) file d.0 (state_of g) is) in
        let full = lacks.2 in (
          d.0,
          entries_of (state_of g),
          d.1,
          ap (λ (l : List (List FileEntry)). slice_get l file) logs_are ∙ slice_get-map (λ (x : OpenFile S). entries_of (state_of x)) files file
              ∙ ap (λ (o : Option (OpenFile S)). option_map (λ (x : OpenFile S). entries_of (state_of x)) o) lacks.1,
          omega (arith, long, layout, full),
        )
    full-for (op.OnDrive order drive) can lacks =
        let long = length-map (λ (n : Note BoardEntry). n.entry) (board_of hand).notes in
        omega (arith, long, lacks)
    full-for (op.FailNode node) can lacks =
        let long = length-map (λ (n : Note BoardEntry). n.entry) (board_of hand).notes in
        omega (arith, long, lacks)
    full-for (op.Start kind job priority) can lacks = absurd can
    full-for (op.OnJob order job) can lacks = absurd can
    full-for (op.Work steps) can lacks = absurd can
    full-for op.Drain can lacks = absurd can
    full-for op.RestartEngine can lacks = absurd can

  module _ (s : Scenario) (playable : IsPlayableScenario s) (files : List (OpenFile S)) (hand : Hand S) (board : List BoardEntry) (logs : List (List FileEntry))
      (board_is : board ≡ log_of (board_of hand)) (logs_are : logs ≡ logs_of_files files) where
    -- a run to its end
    pub serial-run : IsPlayed place_of content len_of s (order_of s) files hand → IsSerialRun (AllTell content) s board logs
    serial-run played =
        let are = serial s (order_of s) files hand played logs logs_are in
        let many = logs-many s (order_of s) files hand played logs logs_are in
        let run : IsSerialRun (AllTell content) s (log_of (board_of hand)) logs = record {
          many = many;
          legal = record {
            orders = played.orders;
            entries = entries-legal s (order_of s) files hand played logs logs_are;
            actors = serial_logs_keep s (log_of (board_of hand)) logs (λ by operation known. subst (λ (n : ℕ). HasLog n operation) (sym many) (has-log s.shape (length s.files) operation (playable-at s by operation playable known))) are;
          };
          serial = are;
        } in
        subst (λ (b : List BoardEntry). IsSerialRun (AllTell content) s b logs) (sym board_is) run

    -- a run to a full log
    pub full-run : IsStoppedFull place_of content len_of s (order_of s) files hand → IsFullRun (AllTell content) s board logs
    full-run stopped =
        let played = stopped.played in
        let run : IsFullRun (AllTell content) s (log_of (board_of hand)) logs = record {
          done = stopped.done;
          next = stopped.next;
          rest = stopped.rest;
          split = stopped.split;
          many = logs-many s stopped.done files hand played logs logs_are;
          orders = played.orders;
          entries = entries-legal s stopped.done files hand played logs logs_are;
          serial = serial s stopped.done files hand played logs logs_are;
          operation = stopped.operation;
          is = stopped.is;
          full = full-for s stopped.done files hand played logs logs_are stopped.operation (playable-at s stopped.next stopped.operation playable stopped.is) stopped.full;
        } in
        subst (λ (b : List BoardEntry). IsFullRun (AllTell content) s b logs) (sym board_is) run
