-- The definitions on some operations, both ways.
use Rattle.std.proofs.Common.{codes, ◌≡◌, Some, None, lit<, refl, arith}
use Rattle.std.specs.Fmt.{digits}
use Rattle.job_rules.specs.declared.kind.JobKind.TheVariants.{FlexProtect, Collect}
use Rattle.operation_text.specs.NamedOps.{named_text, FitsOp}
use Rattle.operation_text.specs.declared.named_op.DriveOrder.TheVariants.{Fail}
use Rattle.operation_text.specs.declared.named_op.FileAction.TheVariants.{Write, Read}
use Rattle.operation_text.specs.declared.named_op.NamedOp.TheVariants.{OnFile, OnDrive, Start, Work, RestartEngine}
use Rattle.operation_text.specs.declared.named_op.Payload.TheVariants.{Text, Fill}

write_text : named_text (OnFile (codes "a") (Write 0 (Text (codes "two words")))) ≡ codes "write a 0 text:two words"
unfolding digits
write_text = refl

write_fill : named_text (OnFile (codes "a") (Write 17 (Fill 255 32))) ≡ codes "write a 17 fill:255:32"
unfolding digits
write_fill = refl

read_text : named_text (OnFile (codes "a") (Read 0 5)) ≡ codes "read a 0 5"
unfolding digits
read_text = refl

fail_text : named_text (OnDrive Fail (codes "3") (codes "1")) ≡ codes "fail 3/1"
fail_text = refl

start_text : named_text (Start FlexProtect (codes "j") None) ≡ codes "start FlexProtect as j"
start_text = refl

start_with : named_text (Start Collect (codes "j") (Some 10)) ≡ codes "start Collect as j 10"
unfolding digits
start_with = refl

lone_text : named_text RestartEngine ≡ codes "restart-engine"
lone_text = refl

-- the least and the most steps of work, and one beyond each
least_work : FitsOp (Work 1)
least_work = (lit< tt, lit< tt)

no_work : FitsOp (Work 0) → ⊥
no_work fits = omega (arith, fits.0)

too_much_work : FitsOp (Work 65537) → ⊥
too_much_work fits = omega (arith, fits.1)

-- a priority of 11 is none
no_priority : FitsOp (Start Collect (codes "j") (Some 11)) → ⊥
no_priority fits = omega (arith, fits.1.1)

-- an offset beyond 2^29 is none
no_offset : FitsOp (OnFile (codes "a") (Read 536870913 0)) → ⊥
no_offset fits = omega (arith, fits.1)
