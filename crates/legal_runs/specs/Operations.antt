-- The operation that an entry belongs to.
use Rattle.std.specs.Prelude.{◌≡◌, ℕ, ◌+◌, ◌-◌, ◌≤◌, nat_lt, ◌&&◌, if◌then◌else◌, List, [], ◌∷◌, length, Option, Some, None, slice_get, option_and_then, ◌⊎◌}
use Rattle.std.specs.Option.{option_map_or}
use Rattle.domains.specs.declared.by.By.{By}
use Rattle.board_history.specs.declared.entry.BoardEntry.{BoardEntry}
use Rattle.board_history.specs.declared.entry.Order.{Order}
use Rattle.board_history.specs.declared.entry.Order.TheVariants as order
use Rattle.file_history.specs.declared.entry.Refused.{Refused}
use Rattle.file_history.specs.declared.entry.Refused.TheVariants as refused
use Rattle.file_history.specs.declared.entry.FileEvent.{FileEvent}
use Rattle.file_history.specs.declared.entry.FileEvent.TheVariants as event
use Rattle.file_history.specs.declared.entry.FileEntry.{FileEntry}
use Rattle.file_history.specs.declared.entry.NotedEntry.{NotedEntry}
use Rattle.operation_text.specs.declared.named_op.DriveOrder.TheVariants as drive_order
use Rattle.operation_text.specs.declared.named_op.FileAction.{FileAction}
use Rattle.operation_text.specs.declared.named_op.FileAction.TheVariants as action
use Rattle.whole_scenario.specs.Payloads.{bytes_of}
use Rattle.whole_scenario.specs.declared.op.Op.{Op}
use Rattle.whole_scenario.specs.declared.op.Op.TheVariants as op
use Rattle.whole_scenario.specs.declared.whole.Scenario.{Scenario}

-- the operation of this number, from 1, of the client of this number, from 1
abbrev pub op_at : Scenario → By → Option Op
op_at s by = if nat_lt 0 by.actor && nat_lt 0 by.call
    then option_and_then (λ (script : List Op). slice_get script (by.call - 1)) (slice_get s.actors (by.actor - 1))
    else None

-- the bytes that an action writes to a file, none if it is no write
abbrev pub payload_of_action : FileAction → List ℕ
payload_of_action action.Create = []
payload_of_action action.Delete = []
payload_of_action (action.Write offset payload) = bytes_of payload
payload_of_action (action.Read offset len) = []
payload_of_action (action.SetLevel level) = []

-- the bytes that an operation writes to a file, none if it is no write
abbrev pub payload_of : Op → List ℕ
payload_of (op.OnFile file action) = payload_of_action action
payload_of (op.OnDrive order drive) = []
payload_of (op.FailNode node) = []
payload_of (op.Start kind job priority) = []
payload_of (op.OnJob order job) = []
payload_of (op.Work steps) = []
payload_of op.Drain = []
payload_of op.RestartEngine = []

-- the entry with the bytes that its operation writes
abbrev pub noted_in : Scenario → FileEntry → NotedEntry
noted_in s e = record { entry = e; payload = option_map_or payload_of (op_at s e.by) [] }

abbrev pub noted_entries : Scenario → List FileEntry → List NotedEntry
noted_entries s [] = []
noted_entries s (e ∷ es) = noted_in s e ∷ noted_entries s es

-- the entry is one of a worker: workers are numbered behind the clients, and their calls from 1
pub record IsOfWorker (s : Scenario) (by : By) : Type 0 where
  pub behind : length s.actors + 1 ≤ by.actor
  pub within : by.actor ≤ length s.actors + s.workers
  pub call : 1 ≤ by.call

-- the action writes this range
abbrev pub WritesRange : ℕ → ℕ → FileAction → Type 0
WritesRange offset len action.Create = ⊥
WritesRange offset len action.Delete = ⊥
WritesRange offset len (action.Write o payload) = (o ≡ offset) × (length (bytes_of payload) ≡ len)
WritesRange offset len (action.Read o l) = ⊥
WritesRange offset len (action.SetLevel level) = ⊥

-- the refusal answers this action
abbrev pub RefusesAction : FileAction → Refused → Type 0
RefusesAction a refused.CreateExists = a ≡ action.Create
RefusesAction a (refused.CreateTooFew fault) = a ≡ action.Create
RefusesAction a (refused.CreateNoRoom need got drives) = a ≡ action.Create
RefusesAction a refused.DeleteAbsent = a ≡ action.Delete
RefusesAction a (refused.WriteAbsent offset len) = WritesRange offset len a
RefusesAction a (refused.WriteTooFew offset len fault) = WritesRange offset len a
RefusesAction a (refused.WriteTooLong offset len count) = WritesRange offset len a
RefusesAction a (refused.WriteLost offset len lost) = WritesRange offset len a
RefusesAction a (refused.WriteNoRoom offset len need got drives) = WritesRange offset len a
RefusesAction a (refused.ReadAbsent offset len) = a ≡ action.Read offset len
RefusesAction a (refused.ReadLost offset len lost) = a ≡ action.Read offset len
RefusesAction a (refused.LevelAbsent level) = a ≡ action.SetLevel level

-- the event is the one entry that this action has
abbrev pub AnswersAction : FileAction → FileEvent → Type 0
AnswersAction a (event.Created inode) = a ≡ action.Create
AnswersAction a event.Deleted = a ≡ action.Delete
AnswersAction a (event.Written offset len size change) = WritesRange offset len a
AnswersAction a (event.Shown offset len bytes) = a ≡ action.Read offset len
AnswersAction a (event.LevelSet level) = a ≡ action.SetLevel level
AnswersAction a (event.Placed job change) = ⊥
AnswersAction a (event.Dead generation position) = ⊥
AnswersAction a (event.Barred job drives) = ⊥
AnswersAction a (event.Cleared job drives) = ⊥
AnswersAction a (event.Marked job count) = ⊥
AnswersAction a (event.Refused why) = RefusesAction a why

-- the action reads the file or writes it
abbrev pub IsReadOrWrite : FileAction → Type 0
IsReadOrWrite action.Create = ⊥
IsReadOrWrite action.Delete = ⊥
IsReadOrWrite (action.Write offset payload) = Unit {0}
IsReadOrWrite (action.Read offset len) = Unit {0}
IsReadOrWrite (action.SetLevel level) = ⊥

-- the operation may find a unit of the file dead: it reads the file or writes it, or it works on jobs
abbrev pub MayFindDead : ℕ → Op → Type 0
MayFindDead file (op.OnFile f a) = (f ≡ file) × IsReadOrWrite a
MayFindDead file (op.OnDrive order drive) = ⊥
MayFindDead file (op.FailNode node) = ⊥
MayFindDead file (op.Start kind job priority) = ⊥
MayFindDead file (op.OnJob order job) = ⊥
MayFindDead file (op.Work steps) = Unit {0}
MayFindDead file op.Drain = Unit {0}
MayFindDead file op.RestartEngine = ⊥

-- the operation is this action on the file
abbrev pub IsOnFile : ℕ → Op → FileEvent → Type 0
IsOnFile file (op.OnFile f a) t = (f ≡ file) × AnswersAction a t
IsOnFile file (op.OnDrive order drive) t = ⊥
IsOnFile file (op.FailNode node) t = ⊥
IsOnFile file (op.Start kind job priority) t = ⊥
IsOnFile file (op.OnJob order job) t = ⊥
IsOnFile file (op.Work steps) t = ⊥
IsOnFile file op.Drain t = ⊥
IsOnFile file op.RestartEngine t = ⊥

-- the operation of the entry's client is one that may have this entry in the file's log
pub record AnswersOp (s : Scenario) (file : ℕ) (e : FileEntry) : Type 0 where
  pub operation : Op
  pub known : op_at s e.by ≡ Some operation
  pub answers : IsOnFile file operation e.event

-- a client's operation or a worker may find the unit dead
pub record FindsDead (s : Scenario) (file : ℕ) (by : By) : Type 0 where
  pub operation : Op
  pub known : op_at s by ≡ Some operation
  pub may : MayFindDead file operation

-- The entry fits its operation. The Job Engine's log has no entries yet, so no job is started, and no entry that names a job fits.
abbrev pub FitsEvent : Scenario → ℕ → FileEntry → FileEvent → Type 0
FitsEvent s file e (event.Created inode) = AnswersOp s file e
FitsEvent s file e event.Deleted = AnswersOp s file e
FitsEvent s file e (event.Written offset len size change) = AnswersOp s file e
FitsEvent s file e (event.Shown offset len bytes) = AnswersOp s file e
FitsEvent s file e (event.LevelSet level) = AnswersOp s file e
FitsEvent s file e (event.Placed job change) = ⊥
FitsEvent s file e (event.Dead generation position) = FindsDead s file e.by ⊎ IsOfWorker s e.by
FitsEvent s file e (event.Barred job drives) = ⊥
FitsEvent s file e (event.Cleared job drives) = ⊥
FitsEvent s file e (event.Marked job count) = ⊥
FitsEvent s file e (event.Refused why) = AnswersOp s file e

abbrev pub FitsScript : Scenario → ℕ → FileEntry → Type 0
FitsScript s file e = FitsEvent s file e e.event

-- the operation gives the board this order
abbrev pub IsOrderOf : Op → Order → Type 0
IsOrderOf o (order.Fail d) = o ≡ op.OnDrive drive_order.Fail d
IsOrderOf o (order.FailNode n) = o ≡ op.FailNode n
IsOrderOf o (order.Down d) = o ≡ op.OnDrive drive_order.Down d
IsOrderOf o (order.Up d) = o ≡ op.OnDrive drive_order.Up d

-- the board's entry is the order of its client's operation
pub record FitsOrder (s : Scenario) (e : BoardEntry) : Type 0 where
  pub operation : Op
  pub known : op_at s e.by ≡ Some operation
  pub answers : IsOrderOf operation e.order
