-- What a play answers.
use Rattle.std.specs.Prelude.{◌≡◌, ℕ, List, [], ◌∷◌, ◌++◌, Option, Result, Ok, Err}
use Rattle.board.specs.History.{log_of}
use Rattle.board_history.specs.declared.entry.BoardEntry.{BoardEntry}
use Rattle.domains.specs.Shape.{Shape}
use Rattle.actor_operations.specs.Entries.{board_of}
use Rattle.actor_operations.specs.declared.stop.Stop.{Stop}
use Rattle.actor_operations.specs.declared.stop.Stop.TheVariants as stop
use Rattle.fabric.specs.ClosedFabric.{ArePoolsOf, AreYardOf, IsExact}
use Rattle.fabric.specs.declared.fault.OpenFault.{OpenFault}
use Rattle.fabric.specs.declared.fault.OpenFault.TheVariants as open_fault
use Rattle.fabric.specs.declared.hand.Hand.{Hand}
use Rattle.file_cells.specs.FileEnds.{logs_of_files, slots_of_files}
use Rattle.file_cells.specs.declared.open_file.OpenFile.{OpenFile}
use Rattle.file_history.specs.declared.entry.FileEntry.{FileEntry}
use Rattle.flex_io.specs.declared.fault.Fault.{Fault}
use Rattle.flex_io.specs.declared.fault.Fault.TheVariants as fault
use Rattle.flex_io.specs.declared.raw_place.RawPlace.{RawPlace}
use Rattle.returned_slots.specs.RackStates.{RackState}
use Rattle.returned_slots.specs.Returns.{Returns, free_slots}
use Rattle.slot_pool.specs.Pools.{PoolView}
use Rattle.whole_scenario.specs.declared.whole.Scenario.{Scenario}
use Rattle.serial_play.specs.RunEnds.{IsFullRun, IsSerialRun}
use Rattle.serial_play.specs.declared.logs.PlayFault.{PlayFault}
use Rattle.serial_play.specs.declared.logs.PlayFault.TheVariants as play
use Rattle.serial_play.specs.declared.logs.RunLogs.{RunLogs}

-- what a fault of the rack means
abbrev pub fault_of : Fault → PlayFault
fault_of fault.Failed = play.Rack
fault_of fault.NoMemory = play.NoMemory

abbrev pub fault_at_open : OpenFault → PlayFault
fault_at_open open_fault.Rack = play.Rack
fault_at_open open_fault.NoMemory = play.NoMemory

-- a fault of the rack comes first, then what stopped the operations
abbrev pub outcome_of : {T U : Type 0} → Result T Stop → Result U Fault → RunLogs → Result RunLogs PlayFault
outcome_of played (Err f) logs = Err (fault_of f)
outcome_of (Ok done) (Ok put) logs = Ok logs
outcome_of (Err stop.LogFull) (Ok put) logs = Err (play.LogFull logs)
outcome_of (Err stop.NoMemory) (Ok put) logs = Err play.NoMemory

module _ {S : Type 0} (place_of : S → RawPlace) (content : S → Option (List ℕ)) where
  -- The logs are those of the files and of the one hand's board, and all slots went back: those of the files, those that waited, the
  -- retired ones, and the free ones.
  pub record EndsCells {T : Type 0} (shape : Shape) (hand : Hand S) (files : List (OpenFile S)) (board : List BoardEntry) (logs : List (List FileEntry)) (result : Result T Fault) (before now : RackState) : Type 0 where
    pub board_is : board ≡ log_of (board_of hand)
    pub logs_are : logs ≡ logs_of_files files
    pub waited : List S
    pub retired : List S
    pub pools : List (PoolView S)
    pub of_yard : AreYardOf place_of shape (hand ∷ []) waited retired
    pub of_pools : ArePoolsOf place_of shape (hand ∷ []) pools
    pub exact : IsExact place_of shape (hand ∷ []) pools waited retired
    pub returns : Returns place_of content (slots_of_files files ++ (waited ++ retired ++ free_slots pools)) result before now

-- What a play answers: the logs of a run to its end, or to a full log, which left the rack so; or the rack failed. Where memory runs out
-- nothing is told.
abbrev pub PlayTells : Type 0 → (RunLogs → Type 0) → Type 0 → Scenario → Result RunLogs PlayFault → Type 0
PlayTells known Leaves Fails s (Ok logs) = IsSerialRun known s logs.board logs.files × Leaves logs
PlayTells known Leaves Fails s (Err (play.LogFull logs)) = IsFullRun known s logs.board logs.files × Leaves logs
PlayTells known Leaves Fails s (Err play.Rack) = Fails
PlayTells known Leaves Fails s (Err play.NoMemory) = Unit {0}
