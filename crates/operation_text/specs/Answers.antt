-- What a reading answers.
use Rattle.std.specs.Prelude.{◌≡◌, Result, Ok, Err}
use Rattle.operation_text.specs.declared.reading.OpFault.{OpFault}
use Rattle.operation_text.specs.declared.reading.OpFault.TheVariants.{NotAnOp, NoMemory}

-- the answer is this value, unless memory ran out
abbrev pub Answers : {T : Type 0} → Result T OpFault → T → Type 0
Answers (Ok x) y = x ≡ y
Answers (Err NotAnOp) y = ⊥
Answers (Err NoMemory) y = Unit {0}
