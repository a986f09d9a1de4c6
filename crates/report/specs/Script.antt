-- How the entries of the logs belong to the operations of the scripts.
use Rattle.std.specs.Prelude.{◌≡◌, ℕ, ◌+◌, ◌-◌, ◌==◌, ◌<◌, ◌≤◌, nat_lt, Bool, true, false, ◌&&◌, ◌||◌, if◌then◌else◌, List, [], ◌∷◌, length, Option, Some, None, slice_get, option_and_then, count_by}
use Rattle.std.specs.Option.{option_map_or}
use Rattle.std.specs.List.{AllByRecursion}
use Rattle.domains.specs.declared.by.By.{By}
use Rattle.scenario.specs.Ops.{payload_of}
use Rattle.scenario.specs.declared.op.Op.{Op}
use Rattle.scenario.specs.declared.op.Op.TheVariants as op
use Rattle.scenario.specs.declared.scenario.Scenario.{Scenario}
use Rattle.board_history.specs.declared.entry.BoardEntry.{BoardEntry}
use Rattle.board_history.specs.declared.entry.Order.{Order}
use Rattle.board_history.specs.declared.entry.Order.TheVariants as order
use Rattle.file_history.specs.declared.entry.Refused.{Refused}
use Rattle.file_history.specs.declared.entry.Refused.TheVariants as refused
use Rattle.file_history.specs.declared.entry.FileEvent.{FileEvent}
use Rattle.file_history.specs.declared.entry.FileEvent.TheVariants as event
use Rattle.file_history.specs.declared.entry.FileEntry.{FileEntry}
use Rattle.file_history.specs.declared.entry.NotedEntry.{NotedEntry}
use Rattle.report.specs.declared.logs.Logs.{Logs}

-- the operation of this number, from 1, of the actor of this number, from 1
abbrev pub op_at : Scenario → By → Option Op
op_at s by = if nat_lt 0 by.actor && nat_lt 0 by.call
    then option_and_then (λ (script : List Op). slice_get script (by.call - 1)) (slice_get s.actors (by.actor - 1))
    else None

-- the entry with the bytes that its operation writes
abbrev pub noted_in : Scenario → FileEntry → NotedEntry
noted_in s e = record { entry = e; payload = option_map_or payload_of (op_at s e.by) [] }

abbrev pub noted_entries : Scenario → List FileEntry → List NotedEntry
noted_entries s [] = []
noted_entries s (e ∷ es) = noted_in s e ∷ noted_entries s es

-- the operation writes this range of the file
abbrev pub IsWriteOf : ℕ → ℕ → ℕ → Op → Type 0
IsWriteOf file offset len (op.Create f) = ⊥
IsWriteOf file offset len (op.WriteText f o text) = (f ≡ file) × (o ≡ offset) × (length text ≡ len)
IsWriteOf file offset len (op.Read f o l) = ⊥
IsWriteOf file offset len (op.Fail d) = ⊥

-- the operation reads the file or writes it
abbrev pub IsReadOrWriteOf : ℕ → Op → Type 0
IsReadOrWriteOf file (op.Create f) = ⊥
IsReadOrWriteOf file (op.WriteText f offset text) = f ≡ file
IsReadOrWriteOf file (op.Read f offset len) = f ≡ file
IsReadOrWriteOf file (op.Fail d) = ⊥

-- the refusal answers this operation on the file
abbrev pub RefusesOp : ℕ → Op → Refused → Type 0
RefusesOp file o refused.CreateExists = o ≡ op.Create file
RefusesOp file o (refused.CreateTooFew fault) = o ≡ op.Create file
RefusesOp file o (refused.CreateNoRoom need got drives) = o ≡ op.Create file
RefusesOp file o refused.DeleteAbsent = ⊥
RefusesOp file o (refused.WriteAbsent offset len) = IsWriteOf file offset len o
RefusesOp file o (refused.WriteTooFew offset len fault) = IsWriteOf file offset len o
RefusesOp file o (refused.WriteTooLong offset len count) = IsWriteOf file offset len o
RefusesOp file o (refused.WriteLost offset len lost) = IsWriteOf file offset len o
RefusesOp file o (refused.WriteNoRoom offset len need got drives) = IsWriteOf file offset len o
RefusesOp file o (refused.ReadAbsent offset len) = o ≡ op.Read file offset len
RefusesOp file o (refused.ReadLost offset len lost) = o ≡ op.Read file offset len
RefusesOp file o (refused.LevelAbsent level) = ⊥

-- the event is what this operation does to the file; no operation yet deletes a file, sets its level or runs a job
abbrev pub AnswersOp : ℕ → Op → FileEvent → Type 0
AnswersOp file o (event.Created inode) = o ≡ op.Create file
AnswersOp file o event.Deleted = ⊥
AnswersOp file o (event.Written offset len size change) = IsWriteOf file offset len o
AnswersOp file o (event.Shown offset len bytes) = o ≡ op.Read file offset len
AnswersOp file o (event.LevelSet level) = ⊥
AnswersOp file o (event.Placed job change) = ⊥
AnswersOp file o (event.Dead generation position) = IsReadOrWriteOf file o
AnswersOp file o (event.Barred job drives) = ⊥
AnswersOp file o (event.Cleared job drives) = ⊥
AnswersOp file o (event.Marked job count) = ⊥
AnswersOp file o (event.Refused why) = RefusesOp file o why

-- the entry belongs to an operation of the script on this file
pub record FitsScript (s : Scenario) (file : ℕ) (e : FileEntry) : Type 0 where
  pub operation : Op
  pub known : op_at s e.by ≡ Some operation
  pub answers : AnswersOp file operation e.event

abbrev pub IsOrderOf : Op → Order → Type 0
IsOrderOf o (order.Fail d) = o ≡ op.Fail d
IsOrderOf o (order.FailNode n) = ⊥
IsOrderOf o (order.Down d) = ⊥
IsOrderOf o (order.Up d) = ⊥

-- the board's entry is the order of an operation of the script
pub record FitsOrder (s : Scenario) (e : BoardEntry) : Type 0 where
  pub operation : Op
  pub known : op_at s e.by ≡ Some operation
  pub answers : IsOrderOf operation e.order

-- the entry is the one that an operation has, and not one that it makes on the way
abbrev pub is_operation_entry : FileEvent → Bool
is_operation_entry (event.Created inode) = true
is_operation_entry event.Deleted = true
is_operation_entry (event.Written offset len size change) = true
is_operation_entry (event.Shown offset len bytes) = true
is_operation_entry (event.LevelSet level) = true
is_operation_entry (event.Placed job change) = false
is_operation_entry (event.Dead generation position) = false
is_operation_entry (event.Barred job drives) = false
is_operation_entry (event.Cleared job drives) = false
is_operation_entry (event.Marked job count) = false
is_operation_entry (event.Refused why) = true

-- the operations of the actor that have an entry in the file's log, in the order of the log
abbrev pub file_calls : ℕ → List FileEntry → List ℕ
file_calls actor [] = []
file_calls actor (e ∷ es) =
    if (e.by.actor == actor) && is_operation_entry e.event then e.by.call ∷ file_calls actor es else file_calls actor es

-- the operations of the actor that have an entry in the board's log, in the order of the log
abbrev pub board_calls : ℕ → List BoardEntry → List ℕ
board_calls actor [] = []
board_calls actor (e ∷ es) = if e.by.actor == actor then e.by.call ∷ board_calls actor es else board_calls actor es

-- the entry of the operation stands in the board's log
abbrev pub is_for_board : Op → Bool
is_for_board (op.Create f) = false
is_for_board (op.WriteText f offset text) = false
is_for_board (op.Read f offset len) = false
is_for_board (op.Fail d) = true

-- the entry of the operation stands in the log of this file
abbrev pub is_for_file : ℕ → Op → Bool
is_for_file file (op.Create f) = f == file
is_for_file file (op.WriteText f offset text) = f == file
is_for_file file (op.Read f offset len) = f == file
is_for_file file (op.Fail d) = false

-- the numbers of the operations for which the test passes, where the first has this number
abbrev pub numbers_where : List Op → ℕ → (Op → Bool) → List ℕ
numbers_where [] number p = []
numbers_where (o ∷ os) number p = if p o then number ∷ numbers_where os (number + 1) p else numbers_where os (number + 1) p

-- of each actor, its operations have their entries, one each, in the order of its script, in the logs where they belong
pub record FollowsScript (logs : Logs) : Type 0 where
  pub board : (actor : ℕ) (script : List Op) → slice_get logs.scenario.actors actor ≡ Some script
      → board_calls (actor + 1) logs.board ≡ numbers_where script 1 is_for_board
  pub files : (actor file : ℕ) (script : List Op) (log : List FileEntry) → slice_get logs.scenario.actors actor ≡ Some script
      → slice_get logs.files file ≡ Some log → file_calls (actor + 1) log ≡ numbers_where script 1 (is_for_file file)

-- the operation comes before the other where actors take turns, each doing its next operation
abbrev pub is_earlier : By → By → Bool
is_earlier a b = nat_lt a.call b.call || ((a.call == b.call) && nat_lt a.actor b.actor)

-- actors took turns: each epoch is the number of the board's entries of earlier operations
abbrev pub HasSerialEpochs : Logs → Type 0
HasSerialEpochs logs =
    AllByRecursion (λ (log : List FileEntry). AllByRecursion (λ (e : FileEntry).
    e.epoch ≡ count_by (λ (b : BoardEntry). is_earlier b.by e.by) logs.board) log) logs.files

-- the entry stands in the log of some file
abbrev pub IsFileEntry : Logs → FileEntry → Type 0
IsFileEntry logs e = (file at : ℕ) × (log : List FileEntry) × (slice_get logs.files file ≡ Some log) × (slice_get log at ≡ Some e)

-- the entries of each actor: the epochs of its later operations are none below those of the earlier, nor below the places of
-- its own earlier entries of the board
pub record EpochsGoOn (logs : Logs) : Type 0 where
  pub files : (a b : FileEntry) → IsFileEntry logs a → IsFileEntry logs b
      → a.by.actor ≡ b.by.actor → a.by.call < b.by.call → a.epoch ≤ b.epoch
  pub board : (at : ℕ) (o : BoardEntry) (e : FileEntry) → slice_get logs.board at ≡ Some o → IsFileEntry logs e
      → o.by.actor ≡ e.by.actor → o.by.call < e.by.call → at + 1 ≤ e.epoch
