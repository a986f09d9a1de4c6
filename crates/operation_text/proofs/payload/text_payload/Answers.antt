use Rattle.operation_text.specs.declared.named_op.Payload.TheVariants.{Text}
use Rattle.operation_text.proofs.OpKinds.{fails_too}
use Rattle.operation_text.proofs.payload.text_payload.Goals as goal

pub returns-in_err-text-clause-only : goal.returns-in_err-text-clause-only
returns-in_err-text-clause-only c = λ fits.
    fails_too c.from_residual.result c.in_err-text.field-0.0 c.args.words.now (Text c.args.words.now) c.from_residual.ensures.1 (c.in_err-text.ensures.only fits)
