-- The text of an operation.
use Rattle.std.specs.Prelude.{codes, ◌≡◌, ◌≤◌, ℕ, Bool, true, false, List, [], ◌∷◌, ◌++◌, Option, Some, None}
use Rattle.std.specs.Fmt.{decimal}
use Rattle.domains.specs.Level.{IsLevel, level_name}
use Rattle.job_rules.specs.Kinds.{name_of}
use Rattle.scenario.specs.Words.{IsName, IsText}
use Rattle.operation_text.specs.declared.named_op.DriveOrder.{DriveOrder}
use Rattle.operation_text.specs.declared.named_op.DriveOrder.TheVariants.{Fail, Down, Up}
use Rattle.operation_text.specs.declared.named_op.FileAction.TheVariants.{Create, Delete, Write, Read, SetLevel}
use Rattle.operation_text.specs.declared.named_op.JobOrder.{JobOrder}
use Rattle.operation_text.specs.declared.named_op.JobOrder.TheVariants.{Pause, Resume, Cancel}
use Rattle.operation_text.specs.declared.named_op.NamedOp.{NamedOp}
use Rattle.operation_text.specs.declared.named_op.NamedOp.TheVariants.{OnFile, OnDrive, FailNode, Start, OnJob, Work, Drain, RestartEngine}
use Rattle.operation_text.specs.declared.named_op.Payload.{Payload}
use Rattle.operation_text.specs.declared.named_op.Payload.TheVariants.{Text, Fill}
use Rattle.operation_text.specs.Words.{IsJobName, IsNumberText}

abbrev pub order_word : DriveOrder → List ℕ
order_word Fail = codes "fail"
order_word Down = codes "down"
order_word Up = codes "up"

abbrev pub job_word : JobOrder → List ℕ
job_word Pause = codes "pause"
job_word Resume = codes "resume"
job_word Cancel = codes "cancel"

-- the word that an operation begins with
abbrev pub word_of : NamedOp → List ℕ
word_of (OnFile file Create) = codes "create"
word_of (OnFile file Delete) = codes "delete"
word_of (OnFile file (Write offset payload)) = codes "write"
word_of (OnFile file (Read offset len)) = codes "read"
word_of (OnFile file (SetLevel level)) = codes "level"
word_of (OnDrive order node drive) = order_word order
word_of (FailNode node) = codes "failnode"
word_of (Start kind job priority) = codes "start"
word_of (OnJob order job) = job_word order
word_of (Work steps) = codes "work"
word_of Drain = codes "drain"
word_of RestartEngine = codes "restart-engine"

abbrev pub payload_text : Payload → List ℕ
payload_text (Text text) = codes "text:" ++ text
payload_text (Fill start len) = codes "fill:" ++ (decimal start ++ 58 ∷ decimal len)

-- a job's name, and its priority where one is given
abbrev pub job_text : List ℕ → Option ℕ → List ℕ
job_text job None = job
job_text job (Some priority) = job ++ 32 ∷ decimal priority

-- what stands after the word and a space
abbrev pub fields_of : NamedOp → List ℕ
fields_of (OnFile file Create) = file
fields_of (OnFile file Delete) = file
fields_of (OnFile file (Write offset payload)) = file ++ 32 ∷ (decimal offset ++ 32 ∷ payload_text payload)
fields_of (OnFile file (Read offset len)) = file ++ 32 ∷ (decimal offset ++ 32 ∷ decimal len)
fields_of (OnFile file (SetLevel level)) = file ++ 32 ∷ level_name level
fields_of (OnDrive order node drive) = node ++ 47 ∷ drive
fields_of (FailNode node) = node
fields_of (Start kind job priority) = name_of kind ++ 32 ∷ (codes "as " ++ job_text job priority)
fields_of (OnJob order job) = job
fields_of (Work steps) = decimal steps
fields_of Drain = []
fields_of RestartEngine = []

-- the operation is more than its word
abbrev pub has_fields : NamedOp → Bool
has_fields Drain = false
has_fields RestartEngine = false
has_fields (OnFile file action) = true
has_fields (OnDrive order node drive) = true
has_fields (FailNode node) = true
has_fields (Start kind job priority) = true
has_fields (OnJob order job) = true
has_fields (Work steps) = true

abbrev pub joined : List ℕ → List ℕ → Bool → List ℕ
joined word fields true = word ++ 32 ∷ fields
joined word fields false = word

-- the text of an operation: its word, and its fields after a space where it has any
abbrev pub named_text : NamedOp → List ℕ
named_text op = joined (word_of op) (fields_of op) (has_fields op)

-- an offset of a write or a read
abbrev pub IsOffset : ℕ → Type 0
IsOffset offset = offset ≤ 536870912

abbrev pub FitsPayload : Payload → Type 0
FitsPayload (Text text) = IsText text
FitsPayload (Fill start len) = (start ≤ 255) × (1 ≤ len) × (len ≤ 1048576)

abbrev pub FitsPriority : Option ℕ → Type 0
FitsPriority None = Unit {0}
FitsPriority (Some priority) = (1 ≤ priority) × (priority ≤ 10)

-- the fields are within their limits
abbrev pub FitsOp : NamedOp → Type 0
FitsOp (OnFile file Create) = IsName file
FitsOp (OnFile file Delete) = IsName file
FitsOp (OnFile file (Write offset payload)) = IsName file × IsOffset offset × FitsPayload payload
FitsOp (OnFile file (Read offset len)) = IsName file × IsOffset offset × (len ≤ 1048576)
FitsOp (OnFile file (SetLevel level)) = IsName file × IsLevel level
FitsOp (OnDrive order node drive) = IsNumberText node × IsNumberText drive
FitsOp (FailNode node) = IsNumberText node
FitsOp (Start kind job priority) = IsJobName job × FitsPriority priority
FitsOp (OnJob order job) = IsJobName job
FitsOp (Work steps) = (1 ≤ steps) × (steps ≤ 65536)
FitsOp Drain = Unit {0}
FitsOp RestartEngine = Unit {0}

-- the text spells the operation
pub record SpellsOp (text : List ℕ) (op : NamedOp) : Type 0 where
  pub is : text ≡ named_text op
  pub fits : FitsOp op
