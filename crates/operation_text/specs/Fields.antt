-- What is read after each word.
use Rattle.std.specs.Prelude.{codes, ◌≡◌, ◌≤◌, ℕ, List, ◌∷◌, ◌++◌, Option, Result}
use Rattle.std.specs.Fmt.{decimal}
use Rattle.domains.specs.Level.{Level, IsLevel, level_name}
use Rattle.job_rules.specs.Kinds.{name_of}
use Rattle.job_rules.specs.declared.kind.JobKind.{JobKind}
use Rattle.scenario.specs.Words.{IsName}
use Rattle.operation_text.specs.declared.named_op.FileAction.TheVariants as action
use Rattle.operation_text.specs.declared.named_op.NamedOp.{NamedOp}
use Rattle.operation_text.specs.declared.named_op.NamedOp.TheVariants as op
use Rattle.operation_text.specs.declared.named_op.Payload.{Payload}
use Rattle.operation_text.specs.declared.reading.OpFault.{OpFault}
use Rattle.operation_text.specs.declared.verb.Verb.{Verb}
use Rattle.operation_text.specs.declared.verb.Verb.TheVariants as verb
use Rattle.operation_text.specs.Words.{IsJobName, IsNumberText}
use Rattle.operation_text.specs.NamedOps.{order_word, job_word, payload_text, job_text, IsOffset, FitsPayload, FitsPriority}
use Rattle.operation_text.specs.Answers.{Answers}

abbrev pub verb_word : Verb → List ℕ
verb_word verb.Create = codes "create"
verb_word verb.Delete = codes "delete"
verb_word verb.Write = codes "write"
verb_word verb.Read = codes "read"
verb_word verb.Level = codes "level"
verb_word (verb.Drive order) = order_word order
verb_word verb.FailNode = codes "failnode"
verb_word verb.Start = codes "start"
verb_word (verb.Job order) = job_word order
verb_word verb.Work = codes "work"

-- the fields of a write
pub record AreWriteFields (fields file : List ℕ) (offset : ℕ) (payload : Payload) : Type 0 where
  pub name : IsName file
  pub within : IsOffset offset
  pub fits : FitsPayload payload
  pub are : fields ≡ file ++ 32 ∷ (decimal offset ++ 32 ∷ payload_text payload)

-- the fields of a read
pub record AreReadFields (fields file : List ℕ) (offset len : ℕ) : Type 0 where
  pub name : IsName file
  pub within : IsOffset offset
  pub short : len ≤ 1048576
  pub are : fields ≡ file ++ 32 ∷ (decimal offset ++ 32 ∷ decimal len)

-- the fields of a change of level
pub record AreLevelFields (fields file : List ℕ) (level : Level) : Type 0 where
  pub name : IsName file
  pub is_level : IsLevel level
  pub are : fields ≡ file ++ 32 ∷ level_name level

-- the fields of an order about a drive
pub record AreDriveFields (fields node drive : List ℕ) : Type 0 where
  pub is_node : IsNumberText node
  pub is_drive : IsNumberText drive
  pub are : fields ≡ node ++ 47 ∷ drive

-- the fields of a start
pub record AreStartFields (fields : List ℕ) (kind : JobKind) (job : List ℕ) (priority : Option ℕ) : Type 0 where
  pub name : IsJobName job
  pub fits : FitsPriority priority
  pub are : fields ≡ name_of kind ++ 32 ∷ (codes "as " ++ job_text job priority)

-- the field of some steps of work
pub record AreWorkFields (fields : List ℕ) (steps : ℕ) : Type 0 where
  pub some : 1 ≤ steps
  pub few : steps ≤ 65536
  pub are : fields ≡ decimal steps

-- the operation is that of the word with these fields
abbrev pub IsOpAt : Verb → List ℕ → NamedOp → Type 0
IsOpAt verb.Create fields o = IsName fields × (o ≡ op.OnFile fields action.Create)
IsOpAt verb.Delete fields o = IsName fields × (o ≡ op.OnFile fields action.Delete)
IsOpAt verb.Write fields o = (file : List ℕ) × (offset : ℕ) × (payload : Payload) × AreWriteFields fields file offset payload × (o ≡ op.OnFile file (action.Write offset payload))
IsOpAt verb.Read fields o = (file : List ℕ) × (offset : ℕ) × (len : ℕ) × AreReadFields fields file offset len × (o ≡ op.OnFile file (action.Read offset len))
IsOpAt verb.Level fields o = (file : List ℕ) × (level : Level) × AreLevelFields fields file level × (o ≡ op.OnFile file (action.SetLevel level))
IsOpAt (verb.Drive order) fields o = (node : List ℕ) × (drive : List ℕ) × AreDriveFields fields node drive × (o ≡ op.OnDrive order node drive)
IsOpAt verb.FailNode fields o = IsNumberText fields × (o ≡ op.FailNode fields)
IsOpAt verb.Start fields o = (kind : JobKind) × (job : List ℕ) × (priority : Option ℕ) × AreStartFields fields kind job priority × (o ≡ op.Start kind job priority)
IsOpAt (verb.Job order) fields o = IsJobName fields × (o ≡ op.OnJob order fields)
IsOpAt verb.Work fields o = (steps : ℕ) × AreWorkFields fields steps × (o ≡ op.Work steps)

-- the answer is every operation of the word with these fields
abbrev pub AnswersAt : Verb → List ℕ → Result NamedOp OpFault → Type 0
AnswersAt verb.Create fields r = IsName fields → Answers r (op.OnFile fields action.Create)
AnswersAt verb.Delete fields r = IsName fields → Answers r (op.OnFile fields action.Delete)
AnswersAt verb.Write fields r = (file : List ℕ) (offset : ℕ) (payload : Payload) → AreWriteFields fields file offset payload → Answers r (op.OnFile file (action.Write offset payload))
AnswersAt verb.Read fields r = (file : List ℕ) (offset len : ℕ) → AreReadFields fields file offset len → Answers r (op.OnFile file (action.Read offset len))
AnswersAt verb.Level fields r = (file : List ℕ) (level : Level) → AreLevelFields fields file level → Answers r (op.OnFile file (action.SetLevel level))
AnswersAt (verb.Drive order) fields r = (node drive : List ℕ) → AreDriveFields fields node drive → Answers r (op.OnDrive order node drive)
AnswersAt verb.FailNode fields r = IsNumberText fields → Answers r (op.FailNode fields)
AnswersAt verb.Start fields r = (kind : JobKind) (job : List ℕ) (priority : Option ℕ) → AreStartFields fields kind job priority → Answers r (op.Start kind job priority)
AnswersAt (verb.Job order) fields r = IsJobName fields → Answers r (op.OnJob order fields)
AnswersAt verb.Work fields r = (steps : ℕ) → AreWorkFields fields steps → Answers r (op.Work steps)
