-- A scenario by the numbers of its files, jobs and drives.
use Rattle.std.specs.Prelude.{ℕ, zero, suc, ◌+◌, ◌≤◌, ◌==◌, if◌then◌else◌, List, [], ◌∷◌, ◌++◌, Option, Some, None}
use Rattle.std.specs.Str.Parse.{digits_value}
use Rattle.domains.specs.Drive.{Drive}
use Rattle.job_rules.specs.Kinds.{priority_of}
use Rattle.job_rules.specs.declared.job.JobId.{JobId}
use Rattle.job_rules.specs.declared.kind.JobKind.{JobKind}
use Rattle.operation_rules.specs.OpRules.{file_names, started_in}
use Rattle.operation_rules.specs.declared.place.PlacedOp.{PlacedOp}
use Rattle.operation_text.specs.declared.named_op.NamedOp.{NamedOp}
use Rattle.operation_text.specs.declared.named_op.NamedOp.TheVariants.{OnFile, OnDrive, FailNode, Start, OnJob, Work, Drain, RestartEngine}
use Rattle.scenario_reader.specs.Numbers.{number_of}
use Rattle.scenario_rules.specs.declared.reading.NamedScenario.{NamedScenario}
use Rattle.whole_scenario.specs.declared.op.Op.{Op}
use Rattle.whole_scenario.specs.declared.op.Op.TheVariants as op
use Rattle.whole_scenario.specs.declared.whole.Scenario.{Scenario}

-- the drive of these digits
abbrev pub drive_of : List ℕ → List ℕ → Drive
drive_of node drive = record { node = digits_value 10 node; drive = digits_value 10 drive }

-- the job of this name
abbrev pub job_of : List (List ℕ) → List ℕ → JobId
job_of jobs job = record { number = number_of jobs 1 job }

-- the priority, or that of the kind where none is given
abbrev pub priority_or : JobKind → Option ℕ → ℕ
priority_or kind (Some priority) = priority
priority_or kind None = priority_of kind

-- the operation by its numbers, where the files and the jobs have these names
abbrev pub op_of : List (List ℕ) → List (List ℕ) → NamedOp → Op
op_of files jobs (OnFile file action) = op.OnFile (number_of files 0 file) action
op_of files jobs (OnDrive order node drive) = op.OnDrive order (drive_of node drive)
op_of files jobs (FailNode node) = op.FailNode (digits_value 10 node)
op_of files jobs (Start kind job priority) = op.Start kind (job_of jobs job) (priority_or kind priority)
op_of files jobs (OnJob order job) = op.OnJob order (job_of jobs job)
op_of files jobs (Work steps) = op.Work steps
op_of files jobs Drain = op.Drain
op_of files jobs RestartEngine = op.RestartEngine

-- the operations of one actor, in their order
abbrev pub script_in : List (List ℕ) → List (List ℕ) → List PlacedOp → ℕ → List Op
script_in files jobs [] actor = []
script_in files jobs (x ∷ xs) actor =
    if x.place.actor == actor then op_of files jobs x.what ∷ script_in files jobs xs actor else script_in files jobs xs actor

-- the operations of each actor, from the one with this number on
abbrev pub scripts_in : List (List ℕ) → List (List ℕ) → List PlacedOp → ℕ → ℕ → List (List Op)
scripts_in files jobs ops actor zero = []
scripts_in files jobs ops actor (suc more) = script_in files jobs ops actor ∷ scripts_in files jobs ops (actor + 1) more

-- the scenario by its numbers
abbrev pub scenario_of : NamedScenario → Scenario
scenario_of n = record {
  shape = n.shape;
  workers = n.workers;
  files = n.files;
  jobs = started_in n.ops;
  actors = scripts_in (file_names n.files) (started_in n.ops) n.ops 1 n.actors;
}

-- the operation is one of these actors
pub record IsActor (actors : ℕ) (x : PlacedOp) : Type 0 where
  pub some : 1 ≤ x.place.actor
  pub few : x.place.actor ≤ actors

-- the scripts with an operation added to the one at a place
abbrev pub pushed : List (List Op) → ℕ → Op → List (List Op)
pushed [] place o = []
pushed (s ∷ ss) zero o = (s ++ o ∷ []) ∷ ss
pushed (s ∷ ss) (suc place) o = s ∷ pushed ss place o
