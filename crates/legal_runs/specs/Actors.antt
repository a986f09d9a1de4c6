-- When an actor keeps to its script, and its epochs go on.
use Rattle.std.specs.Prelude.{◌≡◌, ℕ, ◌+◌, ◌==◌, ◌<◌, ◌≤◌, Bool, true, false, ◌&&◌, List, length, Some, slice_get, count_by}
use Rattle.domains.specs.declared.by.By.{By}
use Rattle.board_history.specs.declared.entry.BoardEntry.{BoardEntry}
use Rattle.file_history.specs.declared.entry.FileEvent.{FileEvent}
use Rattle.file_history.specs.declared.entry.FileEvent.TheVariants as event
use Rattle.file_history.specs.declared.entry.FileEntry.{FileEntry}
use Rattle.whole_scenario.specs.declared.op.Op.{Op}
use Rattle.whole_scenario.specs.declared.op.Op.TheVariants as op
use Rattle.whole_scenario.specs.declared.whole.Scenario.{Scenario}

-- the entry is the one that an operation has, and not one that it makes on the way
abbrev pub is_operation_entry : FileEvent → Bool
is_operation_entry (event.Created inode) = true
is_operation_entry event.Deleted = true
is_operation_entry (event.Written offset len size change) = true
is_operation_entry (event.Shown offset len bytes) = true
is_operation_entry (event.LevelSet level) = true
is_operation_entry (event.Placed job change) = false
is_operation_entry (event.Dead generation position) = false
is_operation_entry (event.Barred job drives) = false
is_operation_entry (event.Cleared job drives) = false
is_operation_entry (event.Marked job count) = false
is_operation_entry (event.Refused why) = true

abbrev pub is_by : ℕ → ℕ → By → Bool
is_by actor call by = (by.actor == actor) && (by.call == call)

-- how many entries of the board's log are of this operation
abbrev pub board_entries : List BoardEntry → ℕ → ℕ → ℕ
board_entries board actor call = count_by (λ (e : BoardEntry). is_by actor call e.by) board

-- how many entries of a file's log are the one of this operation
abbrev pub file_entries : List FileEntry → ℕ → ℕ → ℕ
file_entries log actor call = count_by (λ (e : FileEntry). is_by actor call e.by && is_operation_entry e.event) log

-- The operation of this number has exactly one entry, in the log where it belongs. The operations about jobs belong in the Job
-- Engine's log, which has no entries yet.
abbrev pub HasOneEntry : List BoardEntry → List (List FileEntry) → ℕ → ℕ → Op → Type 0
HasOneEntry board files actor call (op.OnFile file action) =
    (log : List FileEntry) × (slice_get files file ≡ Some log) × (file_entries log actor call ≡ 1)
HasOneEntry board files actor call (op.OnDrive order drive) = board_entries board actor call ≡ 1
HasOneEntry board files actor call (op.FailNode node) = board_entries board actor call ≡ 1
HasOneEntry board files actor call (op.Start kind job priority) = ⊥
HasOneEntry board files actor call (op.OnJob order job) = ⊥
HasOneEntry board files actor call (op.Work steps) = ⊥
HasOneEntry board files actor call op.Drain = ⊥
HasOneEntry board files actor call op.RestartEngine = ⊥

-- the operation of this number does not have exactly one entry
pub record LacksItsEntry (s : Scenario) (board : List BoardEntry) (files : List (List FileEntry)) (actor call : ℕ) : Type 0 where
  pub script : List Op
  pub is_script : slice_get s.actors actor ≡ Some script
  pub index : ℕ
  pub numbered : call ≡ index + 1
  pub operation : Op
  pub there : slice_get script index ≡ Some operation
  pub broken : HasOneEntry board files (actor + 1) call operation → ⊥

-- two entries of the board, the first of a later operation of the actor than the second
pub record BoardGoesBack (board : List BoardEntry) (actor call : ℕ) : Type 0 where
  pub first : ℕ
  pub second : ℕ
  pub before : first < second
  pub early : BoardEntry
  pub is_early : slice_get board first ≡ Some early
  pub late : BoardEntry
  pub is_late : slice_get board second ≡ Some late
  pub by_early : early.by ≡ record { actor = actor; call = call }
  pub by_late : late.by.actor ≡ actor
  pub lower : late.by.call < call

-- two entries of one file's log that count, the first of a later call of the actor than the second
pub record FileGoesBack (counts : FileEvent → Bool) (files : List (List FileEntry)) (actor call : ℕ) : Type 0 where
  pub file : ℕ
  pub log : List FileEntry
  pub is_log : slice_get files file ≡ Some log
  pub first : ℕ
  pub second : ℕ
  pub before : first < second
  pub early : FileEntry
  pub is_early : slice_get log first ≡ Some early
  pub late : FileEntry
  pub is_late : slice_get log second ≡ Some late
  pub early_counts : counts early.event ≡ true
  pub late_counts : counts late.event ≡ true
  pub by_early : early.by ≡ record { actor = actor; call = call }
  pub by_late : late.by.actor ≡ actor
  pub lower : late.by.call < call

-- the entry stands in the log of some file
pub record IsFileEntry (files : List (List FileEntry)) (e : FileEntry) : Type 0 where
  pub file : ℕ
  pub log : List FileEntry
  pub is_log : slice_get files file ≡ Some log
  pub index : ℕ
  pub there : slice_get log index ≡ Some e

-- an entry of this call has an epoch below that of an earlier call of the actor
pub record EpochFalls (files : List (List FileEntry)) (actor call : ℕ) : Type 0 where
  pub early : FileEntry
  pub is_early : IsFileEntry files early
  pub late : FileEntry
  pub is_late : IsFileEntry files late
  pub by_late : late.by ≡ record { actor = actor; call = call }
  pub by_early : early.by.actor ≡ actor
  pub lower : early.by.call < call
  pub falls : late.epoch < early.epoch

-- an entry of this call has an epoch below the place, from 1, of an entry of the board that an earlier call of the actor has
pub record EpochMissesOrder (board : List BoardEntry) (files : List (List FileEntry)) (actor call : ℕ) : Type 0 where
  pub index : ℕ
  pub order : BoardEntry
  pub is_order : slice_get board index ≡ Some order
  pub late : FileEntry
  pub is_late : IsFileEntry files late
  pub by_late : late.by ≡ record { actor = actor; call = call }
  pub by_order : order.by.actor ≡ actor
  pub lower : order.by.call < call
  pub falls : late.epoch < index + 1

-- each entry counts
abbrev pub any_event : FileEvent → Bool
any_event t = true

-- What breaks at this call of the actor of this number, from 1. Of a client: the operation does not have its one entry, or its entry
-- stands before that of an earlier operation in one log. Of a worker: in a file's log an entry of an earlier call stands behind one of
-- this. Of both: an epoch is below that of an earlier call, or misses an order of an earlier one.
pub data Breaks (s : Scenario) (board : List BoardEntry) (files : List (List FileEntry)) : ℕ → ℕ → Type 0 where
  entry : (client call : ℕ) → LacksItsEntry s board files client call → Breaks s board files (client + 1) call
  board_order : (actor call : ℕ) → actor ≤ length s.actors → BoardGoesBack board actor call → Breaks s board files actor call
  file_order : (actor call : ℕ) → actor ≤ length s.actors → FileGoesBack is_operation_entry files actor call → Breaks s board files actor call
  worker_order : (actor call : ℕ) → length s.actors < actor → FileGoesBack any_event files actor call → Breaks s board files actor call
  epoch : (actor call : ℕ) → EpochFalls files actor call → Breaks s board files actor call
  place : (actor call : ℕ) → EpochMissesOrder board files actor call → Breaks s board files actor call

-- the actor keeps to its script, and its epochs go on
abbrev pub KeepsToScript : Scenario → List BoardEntry → List (List FileEntry) → ℕ → Type 0
KeepsToScript s board files actor = (call : ℕ) → Breaks s board files actor call → ⊥
