-- A plain scenario as one of the whole language.
use Rattle.std.specs.Prelude.{◌≡◌, ℕ, Bool, true, false, List, [], map}
use Rattle.operation_text.specs.declared.named_op.DriveOrder.TheVariants as drive
use Rattle.operation_text.specs.declared.named_op.FileAction.{FileAction}
use Rattle.operation_text.specs.declared.named_op.FileAction.TheVariants as action
use Rattle.operation_text.specs.declared.named_op.Payload.TheVariants as payload
use Rattle.scenario.specs.declared.op.Op.{Op}
use Rattle.scenario.specs.declared.op.Op.TheVariants as op
use Rattle.scenario.specs.declared.scenario.Scenario.{Scenario}
use Rattle.whole_scenario.specs.Canonical as whole
use Rattle.whole_scenario.specs.declared.op.Op as whole_op
use Rattle.whole_scenario.specs.declared.op.Op.TheVariants.{OnFile, OnDrive, FailNode, Start, OnJob, Work, Drain, RestartEngine}
use Rattle.whole_scenario.specs.declared.whole.Scenario as whole_scenario
use Rattle.scenario.specs.Canonical.{canonical_text}
use Rattle.first_form.specs.FirstForm.{IsFirstForm}

-- the plain operation in the whole language
abbrev pub op_whole : Op → whole_op.Op
op_whole (op.Create file) = OnFile file action.Create
op_whole (op.WriteText file offset text) = OnFile file (action.Write offset (payload.Text text))
op_whole (op.Read file offset len) = OnFile file (action.Read offset len)
op_whole (op.Fail d) = OnDrive drive.Fail d

-- a plain operation does this to a file
abbrev pub is_plain_action : FileAction → Bool
is_plain_action action.Create = true
is_plain_action action.Delete = false
is_plain_action (action.Write offset (payload.Text text)) = true
is_plain_action (action.Write offset (payload.Fill start len)) = false
is_plain_action (action.Read offset len) = true
is_plain_action (action.SetLevel level) = false

-- some plain operation is this one
abbrev pub is_plain : whole_op.Op → Bool
is_plain (OnFile file what) = is_plain_action what
is_plain (OnDrive drive.Fail d) = true
is_plain (OnDrive drive.Down d) = false
is_plain (OnDrive drive.Up d) = false
is_plain (FailNode node) = false
is_plain (Start kind job priority) = false
is_plain (OnJob order job) = false
is_plain (Work steps) = false
is_plain Drain = false
is_plain RestartEngine = false

abbrev pub script_whole : List Op → List whole_op.Op
script_whole ops = map op_whole ops

abbrev pub scripts_whole : List (List Op) → List (List whole_op.Op)
scripts_whole scripts = map script_whole scripts

-- the plain scenario in the whole language, in which it has no jobs
abbrev pub whole_of : Scenario → whole_scenario.Scenario
whole_of s = record { shape = s.shape; workers = s.workers; files = s.files; jobs = []; actors = scripts_whole s.actors }

-- the whole scenario is this one, which is of the first form
pub record IsPlainOf (w : whole_scenario.Scenario) (s : Scenario) : Type 0 where
  pub form : IsFirstForm s
  pub is : w ≡ whole_of s

-- two plain scenarios that are one in the whole language are the same
abbrev pub OnePlain : Type 0
OnePlain = (s t : Scenario) → whole_of s ≡ whole_of t → s ≡ t

-- a plain scenario has the same canonical text in the whole language
abbrev pub SameText : Type 0
SameText = (s : Scenario) → whole.canonical_text (whole_of s) ≡ canonical_text s
