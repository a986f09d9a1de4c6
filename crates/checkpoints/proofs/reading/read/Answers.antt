use Rattle.std.proofs.Common.{◌≡◌, Ok, Err, ap, subst, sym, ◌∙◌, arith}
use Rattle.field_readers.specs.declared.fault.ReadFault.{ReadFault}
use Rattle.checkpoints.specs.declared.fault.CheckpointRule.{CheckpointRule}
use Rattle.field_readers.specs.FieldReaders.{Fails}
use Rattle.checkpoints.specs.CheckpointFields.{all_of, raw_jobs}
use Rattle.checkpoints.proofs.Spelled.{is_found, is_read}
use Rattle.checkpoints.proofs.reading.read.Goals as goal

pub returns-in-Ok-clause-found : goal.returns-in-Ok-clause-found
returns-in-Ok-clause-found c = is_found c.args.bytes.now c.in-Ok.checkpoint (λ i. omega (arith, c.type_inv.bytes i)) c.in-Ok.ensures

pub returns-in-Ok-clause-only : goal.returns-in-Ok-clause-only
returns-in-Ok-clause-only c = λ other is spelled. sym (ap all_of spelled ∙ is_read other is) ∙ c.in-Ok.ensures

pub returns-in-Err-Broken-clause-only : goal.returns-in-Err-Broken-clause-only
returns-in-Err-Broken-clause-only c = λ other is spelled.
    let read : all_of c.args.bytes.now ≡ Ok (raw_jobs other) = ap all_of spelled ∙ is_read other is in
    let broken : all_of c.args.bytes.now ≡ Err c.in-Err-Broken.broken =
    subst (λ (f : ReadFault CheckpointRule). Fails f (all_of c.args.bytes.now)) c.in-Err-Broken.field-0-is c.in-Err-Broken.ensures in
    absurd cc
