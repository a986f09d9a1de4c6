-- Operations by the names of their files and jobs.
use Rattle.std.specs.Prelude.{ℕ, zero, suc, ◌==◌, if◌then◌else◌, List, [], ◌∷◌, Option, Some, None}
use Rattle.std.specs.Fmt.{decimal}
use Rattle.job_rules.specs.Kinds.{priority_of}
use Rattle.job_rules.specs.declared.kind.JobKind.{JobKind}
use Rattle.operation_text.specs.declared.named_op.NamedOp.{NamedOp}
use Rattle.operation_text.specs.declared.named_op.NamedOp.TheVariants as named
use Rattle.whole_scenario.specs.declared.op.Op.{Op}
use Rattle.whole_scenario.specs.declared.op.Op.TheVariants.{OnFile, OnDrive, FailNode, Start, OnJob, Work, Drain, RestartEngine}

-- the name at a place, from 0; none has no bytes
abbrev pub name_at : List (List ℕ) → ℕ → List ℕ
name_at [] place = []
name_at (n ∷ ns) zero = n
name_at (n ∷ ns) (suc place) = name_at ns place

-- the name of the job of this number, from 1
abbrev pub job_name : List (List ℕ) → ℕ → List ℕ
job_name jobs zero = []
job_name jobs (suc place) = name_at jobs place

-- the priority that a start tells: none where it is the one of its kind
abbrev pub told_priority : JobKind → ℕ → Option ℕ
told_priority kind priority = if priority == priority_of kind then None else Some priority

-- the operation as a text spells it, where the files and the jobs have these names
abbrev pub named_op : List (List ℕ) → List (List ℕ) → Op → NamedOp
named_op files jobs (OnFile file action) = named.OnFile (name_at files file) action
named_op files jobs (OnDrive order drive) = named.OnDrive order (decimal drive.node) (decimal drive.drive)
named_op files jobs (FailNode node) = named.FailNode (decimal node)
named_op files jobs (Start kind job priority) = named.Start kind (job_name jobs job.number) (told_priority kind priority)
named_op files jobs (OnJob order job) = named.OnJob order (job_name jobs job.number)
named_op files jobs (Work steps) = named.Work steps
named_op files jobs Drain = named.Drain
named_op files jobs RestartEngine = named.RestartEngine
