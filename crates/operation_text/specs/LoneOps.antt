-- Operations of one word.
use Rattle.operation_text.specs.declared.named_op.NamedOp.{NamedOp}
use Rattle.operation_text.specs.declared.named_op.NamedOp.TheVariants.{OnFile, OnDrive, FailNode, Start, OnJob, Work, Drain, RestartEngine}

-- the operation is its word alone
abbrev pub IsLone : NamedOp → Type 0
IsLone Drain = Unit {0}
IsLone RestartEngine = Unit {0}
IsLone (OnFile file action) = ⊥
IsLone (OnDrive order node drive) = ⊥
IsLone (FailNode node) = ⊥
IsLone (Start kind job priority) = ⊥
IsLone (OnJob order job) = ⊥
IsLone (Work steps) = ⊥
