-- What the rules say of one operation.
use Rattle.std.specs.Prelude.{ℕ, ◌+◌, nat_le, Bool, true, false, not, ◌&&◌, ◌||◌, List, [], ◌∷◌, ◌++◌, length, map}
use Rattle.std.specs.Str.{bytes_eq}
use Rattle.std.specs.Str.Parse.{digits_value}
use Rattle.domains.specs.Shape.{Shape}
use Rattle.operation_text.specs.declared.named_op.FileAction.TheVariants.{Create, Delete, Write, Read, SetLevel}
use Rattle.operation_text.specs.declared.named_op.NamedOp.{NamedOp}
use Rattle.operation_text.specs.declared.named_op.NamedOp.TheVariants.{OnFile, OnDrive, FailNode, Start, OnJob, Work, Drain, RestartEngine}
use Rattle.operation_text.specs.declared.named_op.Payload.{Payload}
use Rattle.operation_text.specs.declared.named_op.Payload.TheVariants.{Text, Fill}
use Rattle.operation_rules.specs.declared.place.PlacedOp.{PlacedOp}
use Rattle.scenario.specs.declared.scenario.FileDecl.{FileDecl}

-- the name is one of these
abbrev pub has_name : List (List ℕ) → List ℕ → Bool
has_name [] name = false
has_name (n ∷ ns) name = bytes_eq n name || has_name ns name

abbrev pub file_names : List FileDecl → List (List ℕ)
file_names files = map (λ (f : FileDecl). f.name) files

-- the operation is on a file that is not declared
abbrev pub is_undeclared : List (List ℕ) → NamedOp → Bool
is_undeclared names (OnFile file action) = not (has_name names file)
is_undeclared names (OnDrive order node drive) = false
is_undeclared names (FailNode node) = false
is_undeclared names (Start kind job priority) = false
is_undeclared names (OnJob order job) = false
is_undeclared names (Work steps) = false
is_undeclared names Drain = false
is_undeclared names RestartEngine = false

-- the digits are those of a number from 1 to the most
abbrev pub is_number_up_to : ℕ → List ℕ → Bool
is_number_up_to most digits = nat_le 1 (digits_value 10 digits) && nat_le (digits_value 10 digits) most

-- the operation is on a node or a drive that is not in the cluster
abbrev pub is_outside : Shape → NamedOp → Bool
is_outside shape (OnDrive order node drive) = not (is_number_up_to shape.nodes node && is_number_up_to shape.drives drive)
is_outside shape (FailNode node) = not (is_number_up_to shape.nodes node)
is_outside shape (OnFile file action) = false
is_outside shape (Start kind job priority) = false
is_outside shape (OnJob order job) = false
is_outside shape (Work steps) = false
is_outside shape Drain = false
is_outside shape RestartEngine = false

-- the jobs that the operation starts: one or none
abbrev pub starts : NamedOp → List (List ℕ)
starts (Start kind job priority) = job ∷ []
starts (OnFile file action) = []
starts (OnDrive order node drive) = []
starts (FailNode node) = []
starts (OnJob order job) = []
starts (Work steps) = []
starts Drain = []
starts RestartEngine = []

-- the jobs that these start
abbrev pub started_in : List PlacedOp → List (List ℕ)
started_in [] = []
started_in (x ∷ xs) = starts x.what ++ started_in xs

-- the operation starts a job that was started before it, or is on a job that none of all starts names
abbrev pub is_misnamed : NamedOp → List (List ℕ) → List (List ℕ) → Bool
is_misnamed (Start kind job priority) all before = has_name before job
is_misnamed (OnJob order job) all before = not (has_name all job)
is_misnamed (OnFile file action) all before = false
is_misnamed (OnDrive order node drive) all before = false
is_misnamed (FailNode node) all before = false
is_misnamed (Work steps) all before = false
is_misnamed Drain all before = false
is_misnamed RestartEngine all before = false

abbrev pub payload_len : Payload → ℕ
payload_len (Text text) = length text
payload_len (Fill start len) = len

-- how many bytes the operation reads
abbrev pub bytes_read : NamedOp → ℕ
bytes_read (OnFile file (Read offset len)) = len
bytes_read (OnFile file Create) = 0
bytes_read (OnFile file Delete) = 0
bytes_read (OnFile file (Write offset payload)) = 0
bytes_read (OnFile file (SetLevel level)) = 0
bytes_read (OnDrive order node drive) = 0
bytes_read (FailNode node) = 0
bytes_read (Start kind job priority) = 0
bytes_read (OnJob order job) = 0
bytes_read (Work steps) = 0
bytes_read Drain = 0
bytes_read RestartEngine = 0

-- how many bytes the operation writes
abbrev pub bytes_written : NamedOp → ℕ
bytes_written (OnFile file (Write offset payload)) = payload_len payload
bytes_written (OnFile file Create) = 0
bytes_written (OnFile file Delete) = 0
bytes_written (OnFile file (Read offset len)) = 0
bytes_written (OnFile file (SetLevel level)) = 0
bytes_written (OnDrive order node drive) = 0
bytes_written (FailNode node) = 0
bytes_written (Start kind job priority) = 0
bytes_written (OnJob order job) = 0
bytes_written (Work steps) = 0
bytes_written Drain = 0
bytes_written RestartEngine = 0

-- the bytes read, or those written, are more than a scenario may have
abbrev pub is_past : ℕ → ℕ → Bool
is_past reads writes = not (nat_le reads 16777216 && nat_le writes 268435456)

-- nothing plays the operation yet
abbrev pub is_unbuilt : NamedOp → Bool
is_unbuilt (OnFile file action) = false
is_unbuilt (OnDrive order node drive) = false
is_unbuilt (FailNode node) = false
is_unbuilt (Start kind job priority) = true
is_unbuilt (OnJob order job) = true
is_unbuilt (Work steps) = true
is_unbuilt Drain = true
is_unbuilt RestartEngine = true
