-- A run on one thread, as far as it is played.
use Rattle.std.specs.Prelude.{◌≡◌, ℕ, ◌+◌, ◌<◌, true, List, [], ◌∷◌, ◌++◌, length, Option, Some, slice_get, Result, Ok, Err, ⊤}
use Rattle.std.specs.List.{AllByRecursion}
use Rattle.actor_operations.specs.Entries.{board_of}
use Rattle.actor_operations.specs.Operations.{IsOpenIn, IsPlayable}
use Rattle.actor_operations.specs.declared.stop.Stop.{Stop}
use Rattle.actor_operations.specs.declared.stop.Stop.TheVariants.{LogFull, NoMemory}
use Rattle.board.specs.History.{log_of}
use Rattle.board_history.specs.declared.entry.BoardEntry.{BoardEntry}
use Rattle.domains.specs.Drive.{Drive}
use Rattle.domains.specs.Shape.{is_of}
use Rattle.domains.specs.declared.by.By.{By}
use Rattle.fabric.specs.Accounts.{Holds}
use Rattle.fabric.specs.declared.desk.Desk.{Desk}
use Rattle.fabric.specs.declared.hand.Hand.{Hand}
use Rattle.file_cells.specs.FileEnds.{logs_of_files}
use Rattle.file_cells.specs.OpenFiles.{state_of}
use Rattle.file_cells.specs.declared.open_file.OpenFile.{OpenFile}
use Rattle.file_core.specs.Accounts.{units_at}
use Rattle.file_core.specs.FileView.{FileView, IsFile, layout_of}
use Rattle.file_core.specs.declared.noted.Noted.{Noted}
use Rattle.file_history.specs.Layout.{all_groups}
use Rattle.file_turns.specs.PathAccounts.{on_drive}
use Rattle.file_turns.specs.PathRoom.{entries_of_path}
use Rattle.flex_io.specs.declared.raw_place.RawPlace.{RawPlace}
use Rattle.legal_runs.specs.Entries.{IsLegalBoard}
use Rattle.legal_runs.specs.Operations.{op_at}
use Rattle.noted_runs.specs.NotedRuns.{AreNotesIn}
use Rattle.scenario.specs.declared.scenario.FileDecl.{FileDecl}
use Rattle.serial_runs.specs.SerialLogs.{AreSerialLogs}
use Rattle.turn_cell.specs.declared.chronicle.Note.{Note}
use Rattle.whole_scenario.specs.declared.op.Op.{Op}
use Rattle.whole_scenario.specs.declared.op.Op.TheVariants as op
use Rattle.whole_scenario.specs.declared.whole.Scenario.{Scenario}

-- each operation of the scripts is one that can be played on the scenario's files
abbrev pub IsPlayableScenario : Scenario → Type 0
IsPlayableScenario s = AllByRecursion (λ (script : List Op). AllByRecursion (IsPlayable s.shape (length s.files)) script) s.actors

-- the most entries that a log has
abbrev pub log_room : ℕ
log_room = 4194304

-- each note is one of the file's one seat
abbrev pub AreOwn : List (Note Noted) → Type 0
AreOwn notes = AllByRecursion (λ (n : Note Noted). n.seat ≡ 0) notes

module _ {S : Type 0} where
  -- what a run leaves of its desk, beside the seats of the hand and who works there
  pub record KeepsCells {G : Type 0} (old new : Desk S G) : Type 0 where
    pub fabric : new.fabric.now ≡ old.fabric.now
    pub gate : new.gate.now ≡ old.gate.now
    pub hand : new.hand.ghost_name ≡ old.hand.ghost_name

  -- how many units of the file stand on the drive
  abbrev pub file_units : Drive → FileView S → ℕ
  file_units d f = units_at (on_drive d) (all_groups (layout_of f))

  -- how many units of all files
  abbrev pub units_on : Drive → List (OpenFile S) → ℕ
  units_on d [] = 0
  units_on d (f ∷ fs) = file_units d (state_of f) + units_on d fs

  -- the log of the operation has no room for what it may note: that of the file on which it is, or the board's
  abbrev pub LacksRoom : Op → List (OpenFile S) → Hand S → Type 0
  LacksRoom (op.OnFile file action) files hand =
      (f : OpenFile S) × (slice_get files file ≡ Some f) × (log_room < length (state_of f).notes + entries_of_path (state_of f))
  LacksRoom (op.OnDrive order drive) files hand = log_room < length (board_of hand).notes + 1
  LacksRoom (op.FailNode node) files hand = log_room < length (board_of hand).notes + 1
  LacksRoom (op.Start kind job priority) files hand = ⊥
  LacksRoom (op.OnJob order job) files hand = ⊥
  LacksRoom (op.Work steps) files hand = ⊥
  LacksRoom op.Drain files hand = ⊥
  LacksRoom op.RestartEngine files hand = ⊥

module _ {S : Type 0} (place_of : S → RawPlace) (content : S → Option (List ℕ)) (len_of : S → ℕ) where
  -- the file of this number has the notes of a run with this log of the board, and holds what they say
  pub record IsPlayedFile (s : Scenario) (board : List BoardEntry) (number : ℕ) (declared : FileDecl) (f : FileView S) : Type 0 where
    pub file : IsFile place_of content len_of f
    pub shape_is : f.shape ≡ s.shape
    pub level_is : f.level ≡ declared.level
    pub room_is : f.room ≡ log_room
    pub own : AreOwn f.notes
    pub notes : AreNotesIn s board number f.notes

  -- These operations are done, in this order: each has its entry in the log where it belongs, at the epoch of its turn, and it is
  -- legal. The one hand holds as many slots of each drive as units of the files stand there.
  pub record IsPlayed (s : Scenario) (done : List By) (files : List (OpenFile S)) (hand : Hand S) : Type 0 where
    pub many : length files ≡ length s.files
    pub open_ : AllByRecursion (IsOpenIn s.shape) files
    pub each : (number : ℕ) (declared : FileDecl) (f : OpenFile S) → slice_get s.files number ≡ Some declared → slice_get files number ≡ Some f
        → IsPlayedFile s (log_of (board_of hand)) number declared (state_of f)
    pub board_room : (board_of hand).room ≡ log_room
    pub orders : IsLegalBoard s (log_of (board_of hand))
    pub serial : AreSerialLogs s done (log_of (board_of hand)) (logs_of_files files)
    pub account : (d : Drive) → is_of s.shape d ≡ true → Holds s.shape d (units_on d files) hand

  -- What the next operation leaves of the run: it is done too, or its log has no room, and nothing more is done. Where memory runs
  -- out nothing is told.
  abbrev pub PlaysNext : {T : Type 0} → Result T Stop → Scenario → List By → By → Op → List (OpenFile S) → Hand S → Type 0
  PlaysNext (Ok ended) s done next operation files hand = IsPlayed s (done ++ next ∷ []) files hand
  PlaysNext (Err LogFull) s done next operation files hand = IsPlayed s done files hand × LacksRoom operation files hand
  PlaysNext (Err NoMemory) s done next operation files hand = ⊤

  -- the operations before one are done, in this order, and the log of that one has no room
  pub record IsStoppedFull (s : Scenario) (order : List By) (files : List (OpenFile S)) (hand : Hand S) : Type 0 where
    pub done : List By
    pub next : By
    pub rest : List By
    pub split : order ≡ done ++ next ∷ rest
    pub played : IsPlayed s done files hand
    pub operation : Op
    pub is : op_at s next ≡ Some operation
    pub full : LacksRoom operation files hand
