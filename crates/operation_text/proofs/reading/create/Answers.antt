use Rattle.operation_text.proofs.OpKinds.{fails_too}
use Rattle.operation_text.specs.declared.named_op.FileAction.TheVariants as action
use Rattle.operation_text.specs.declared.named_op.NamedOp.TheVariants as op
use Rattle.operation_text.proofs.reading.create.Goals as goal

pub returns-in_err-file-clause-only : goal.returns-in_err-file-clause-only
returns-in_err-file-clause-only c = λ fits.
    fails_too c.from_residual.result c.in_err-file.field-0.0 c.args.fields.now (op.OnFile c.args.fields.now action.Create) c.from_residual.ensures.1 (c.in_err-file.ensures.only fits)
