-- Logs in which operations have their entries in one order, as one thread makes them.
use Rattle.std.specs.Prelude.{◌≡◌, ℕ, ◌==◌, ◌<◌, Bool, true, false, if◌then◌else◌, List, [], ◌∷◌, length, map, Some, slice_get, count_by}
use Rattle.std.specs.Option.{option_map_or}
use Rattle.domains.specs.declared.by.By.{By}
use Rattle.board_history.specs.declared.entry.BoardEntry.{BoardEntry}
use Rattle.file_history.specs.declared.entry.FileEntry.{FileEntry}
use Rattle.whole_scenario.specs.declared.op.Op.{Op}
use Rattle.whole_scenario.specs.declared.op.Op.TheVariants as op
use Rattle.whole_scenario.specs.declared.whole.Scenario.{Scenario}
use Rattle.legal_runs.specs.Actors.{is_operation_entry}
use Rattle.legal_runs.specs.Operations.{op_at}
use Rattle.legal_runs.specs.Verdicts.{KeepToScripts, actors_of}
use Rattle.serial_order.specs.SerialOrder.{is_earlier, serial_order}

-- the entry of the operation stands in the board's log
abbrev pub is_for_board : Op → Bool
is_for_board (op.OnFile file action) = false
is_for_board (op.OnDrive order drive) = true
is_for_board (op.FailNode node) = true
is_for_board (op.Start kind job priority) = false
is_for_board (op.OnJob order job) = false
is_for_board (op.Work steps) = false
is_for_board op.Drain = false
is_for_board op.RestartEngine = false

-- the entry of the operation stands in the log of this file
abbrev pub is_for_file : ℕ → Op → Bool
is_for_file file (op.OnFile f action) = f == file
is_for_file file (op.OnDrive order drive) = false
is_for_file file (op.FailNode node) = false
is_for_file file (op.Start kind job priority) = false
is_for_file file (op.OnJob order job) = false
is_for_file file (op.Work steps) = false
is_for_file file op.Drain = false
is_for_file file op.RestartEngine = false

-- an operation of the scripts at this place has its entry in the board's log
abbrev pub at_board : Scenario → By → Bool
at_board s by = option_map_or is_for_board (op_at s by) false

-- or in the log of this file
abbrev pub at_file : Scenario → ℕ → By → Bool
at_file s file by = option_map_or (is_for_file file) (op_at s by) false

-- those of the operations for which the test passes, in their order
abbrev pub those : (By → Bool) → List By → List By
those p [] = []
those p (b ∷ bs) = if p b then b ∷ those p bs else those p bs

-- how many entries of the board are of operations that come before this one in the serial order
abbrev pub orders_before : By → List BoardEntry → ℕ
orders_before by board = count_by (λ (b : BoardEntry). is_earlier b.by by) board

-- the entry is one that an operation has, and its epoch is the number of the board's entries of earlier operations
pub record IsSerialEntry (board : List BoardEntry) (e : FileEntry) : Type 0 where
  pub counts : is_operation_entry e.event ≡ true
  pub epoch : e.epoch ≡ orders_before e.by board

-- these operations have their entries, one each, in this order, in the logs where they belong, and no other entry is there
pub record AreSerialLogs (s : Scenario) (done : List By) (board : List BoardEntry) (files : List (List FileEntry)) : Type 0 where
  pub orders : map (λ (b : BoardEntry). b.by) board ≡ those (at_board s) done
  pub entries : (file : ℕ) (log : List FileEntry) → slice_get files file ≡ Some log → map (λ (e : FileEntry). e.by) log ≡ those (at_file s file) done
  pub each : (file index : ℕ) (log : List FileEntry) (e : FileEntry) → slice_get files file ≡ Some log → slice_get log index ≡ Some e → IsSerialEntry board e

-- the operation is on one of so many files, or an order to the board
abbrev pub HasLog : ℕ → Op → Type 0
HasLog files (op.OnFile file action) = file < files
HasLog files (op.OnDrive order drive) = Unit {0}
HasLog files (op.FailNode node) = Unit {0}
HasLog files (op.Start kind job priority) = ⊥
HasLog files (op.OnJob order job) = ⊥
HasLog files (op.Work steps) = ⊥
HasLog files op.Drain = ⊥
HasLog files op.RestartEngine = ⊥

-- each operation of the scripts is on one of so many files, or an order to the board
abbrev pub HaveLogs : Scenario → ℕ → Type 0
HaveLogs s files = (by : By) (operation : Op) → op_at s by ≡ Some operation → HasLog files operation

-- where all operations of the scripts have their entries in the serial order, each actor keeps to its script
abbrev pub SerialLogsKeepToScripts : Type 0
SerialLogsKeepToScripts = (s : Scenario) (board : List BoardEntry) (files : List (List FileEntry)) → HaveLogs s (length files)
    → AreSerialLogs s (serial_order (map length s.actors)) board files → KeepToScripts s board files (actors_of s)
