use Rattle.operation_text.proofs.OpKinds.{fails_too}
use Rattle.operation_text.specs.declared.named_op.NamedOp.TheVariants as op
use Rattle.operation_text.proofs.reading.fail_node.Goals as goal

pub returns-in_err-node-clause-only : goal.returns-in_err-node-clause-only
returns-in_err-node-clause-only c = λ fits.
    fails_too c.from_residual.result c.in_err-node.field-0.0 c.args.fields.now (op.FailNode c.args.fields.now) c.from_residual.ensures.1 (c.in_err-node.ensures.only fits)
