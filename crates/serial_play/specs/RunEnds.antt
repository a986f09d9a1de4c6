-- What a run leaves: its logs, and its slots, which go back to the rack.
use Rattle.std.specs.Prelude.{◌≡◌, ℕ, ◌+◌, ◌*◌, ◌<◌, true, List, [], ◌∷◌, ◌++◌, length, map, Option, Some, slice_get}
use Rattle.std.specs.List.{flat_map}
use Rattle.board_history.specs.declared.entry.BoardEntry.{BoardEntry}
use Rattle.domains.specs.Drive.{Drive}
use Rattle.domains.specs.Shape.{is_of}
use Rattle.domains.specs.declared.by.By.{By}
use Rattle.fabric.specs.ClosedFabric.{ArePoolsOf, AreYardOf}
use Rattle.fabric.specs.declared.hand.Hand.{Hand}
use Rattle.file_core.specs.StoredPlaces.{content_at, told_bytes}
use Rattle.file_history.specs.Bytes.{bytes_after}
use Rattle.file_history.specs.Layout.{Layout, all_groups, layout_after, places_of}
use Rattle.file_history.specs.Stored.{IsDetermined, IsStored}
use Rattle.file_history.specs.Laws.{LeavesEnough}
use Rattle.file_history.specs.World.{moment_at}
use Rattle.file_history.specs.declared.entry.FileEntry.{FileEntry}
use Rattle.flex_io.specs.declared.raw_place.RawPlace.{RawPlace}
use Rattle.held_slots.specs.Slots.{count_on, places_from}
use Rattle.legal_runs.specs.Entries.{IsLegalBoard, world_in}
use Rattle.legal_runs.specs.Operations.{noted_entries, op_at}
use Rattle.noted_runs.specs.NotedRuns.{AreLegalFilesWhere, IsLegalRunWhere}
use Rattle.returned_slots.specs.RackStates.{RackState, RisesBy}
use Rattle.returned_slots.specs.Returns.{ComesBack, free_slots}
use Rattle.scenario.specs.declared.scenario.FileDecl.{FileDecl}
use Rattle.serial_order.specs.SerialOrder.{serial_order}
use Rattle.serial_runs.specs.SerialLogs.{AreSerialLogs}
use Rattle.slot_pool.specs.Pools.{PoolView}
use Rattle.striped_groups.specs.StoredGroups.{AllTell}
use Rattle.whole_scenario.specs.declared.op.Op.{Op}
use Rattle.whole_scenario.specs.declared.op.Op.TheVariants as op
use Rattle.whole_scenario.specs.declared.whole.Scenario.{Scenario}
use Rattle.serial_play.specs.PlayedRuns.{log_room}

-- the operations of all scripts in the order in which one thread does them
abbrev pub order_of : Scenario → List By
order_of s = serial_order (map length s.actors)

-- what the log of a file says of it
abbrev pub layout_in : Scenario → FileDecl → List FileEntry → Layout
layout_in s declared log = layout_after declared.level (noted_entries s log)

-- the logs are those of a legal run, made in the serial order; reads show the bytes of their files where it is known what slots hold
pub record IsSerialRun (known : Type 0) (s : Scenario) (board : List BoardEntry) (files : List (List FileEntry)) : Type 0 where
  pub many : length files ≡ length s.files
  pub legal : IsLegalRunWhere known s board files
  pub serial : AreSerialLogs s (order_of s) board files

-- the log where the operation belongs has no room for what it may note
abbrev pub IsFullFor : Scenario → Op → List BoardEntry → List (List FileEntry) → Type 0
IsFullFor s (op.OnFile file action) board files =
    (declared : FileDecl) × (log : List FileEntry) × (slice_get s.files file ≡ Some declared) × (slice_get files file ≡ Some log)
    × (log_room < length log + (length (places_of (all_groups (layout_in s declared log))) + 4))
IsFullFor s (op.OnDrive order drive) board files = log_room < length board + 1
IsFullFor s (op.FailNode node) board files = log_room < length board + 1
IsFullFor s (op.Start kind job priority) board files = ⊥
IsFullFor s (op.OnJob order job) board files = ⊥
IsFullFor s (op.Work steps) board files = ⊥
IsFullFor s op.Drain board files = ⊥
IsFullFor s op.RestartEngine board files = ⊥

-- the logs are those of the operations before one, made in the serial order, each entry of them legal, and the log of that operation
-- is full
pub record IsFullRun (known : Type 0) (s : Scenario) (board : List BoardEntry) (files : List (List FileEntry)) : Type 0 where
  pub done : List By
  pub next : By
  pub rest : List By
  pub split : order_of s ≡ done ++ next ∷ rest
  pub many : length files ≡ length s.files
  pub orders : IsLegalBoard s board
  pub entries : AreLegalFilesWhere known s board files
  pub serial : AreSerialLogs s done board files
  pub operation : Op
  pub is : op_at s next ≡ Some operation
  pub full : IsFullFor s operation board files

module _ {S : Type 0} (place_of : S → RawPlace) (content : S → Option (List ℕ)) where
  -- The slots are the units of the file that its log says, those of its groups in map order and then the inode's, and hold the file.
  -- Where all slots tell what they hold, and enough units are live at an epoch of this log of the board, no other file has these live
  -- units.
  pub record HoldsFile (s : Scenario) (board : List BoardEntry) (declared : FileDecl) (log : List FileEntry) (slots : List S) : Type 0 where
    pub places : places_from place_of slots ≡ places_of (all_groups (layout_in s declared log))
    pub stored : IsStored (content_at place_of content slots) s.shape.unit (layout_in s declared log) (bytes_after (noted_entries s log))
    pub determined : (epoch : ℕ) → AllTell content → LeavesEnough (moment_at (world_in s board declared) epoch) (layout_in s declared log)
        → IsDetermined (moment_at (world_in s board declared) epoch) (λ p. told_bytes (content_at place_of content slots p)) (layout_in s declared log) (bytes_after (noted_entries s log))

  -- All slots of the cluster came back: file by file those that hold it, then those that waited for their drives, those that were
  -- retired, and the free ones, drive by drive. Each drive has all its slots.
  pub record ReturnsSlots (s : Scenario) (board : List BoardEntry) (files : List (List FileEntry)) (before now : RackState) : Type 0 where
    pub units : List (List S)
    pub many : length units ≡ length s.files
    pub each : (number : ℕ) (declared : FileDecl) (log : List FileEntry) (slots : List S) → slice_get s.files number ≡ Some declared → slice_get files number ≡ Some log
        → slice_get units number ≡ Some slots → HoldsFile s board declared log slots
    pub hand : Hand S
    pub waited : List S
    pub retired : List S
    pub pools : List (PoolView S)
    pub of_yard : AreYardOf place_of s.shape (hand ∷ []) waited retired
    pub of_pools : ArePoolsOf place_of s.shape (hand ∷ []) pools
    pub all : (d : Drive) → is_of s.shape d ≡ true → count_on place_of d (flat_map (λ slots. slots) units ++ (waited ++ retired ++ free_slots pools)) ≡ s.shape.slots
    pub takes : now.takes ≡ before.takes
    pub puts : RisesBy (length (flat_map (λ slots. slots) units ++ (waited ++ retired ++ free_slots pools))) before.puts now.puts
    pub back : ComesBack place_of content (flat_map (λ slots. slots) units ++ (waited ++ retired ++ free_slots pools)) before.back now.back

  -- the rack gave each slot of the cluster, and all came back
  pub record LeavesRack (s : Scenario) (board : List BoardEntry) (files : List (List FileEntry)) (before now : RackState) : Type 0 where
    pub taken : RackState
    pub takes : RisesBy (s.shape.nodes * s.shape.drives * s.shape.slots) before.takes taken.takes
    pub puts : taken.puts ≡ before.puts
    pub back : taken.back ≡ before.back
    pub returns : ReturnsSlots s board files taken now
