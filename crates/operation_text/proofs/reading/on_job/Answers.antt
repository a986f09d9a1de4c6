use Rattle.operation_text.proofs.OpKinds.{fails_too}
use Rattle.operation_text.specs.declared.named_op.NamedOp.TheVariants as op
use Rattle.operation_text.proofs.reading.on_job.Goals as goal

pub returns-in_err-job-clause-only : goal.returns-in_err-job-clause-only
returns-in_err-job-clause-only c = λ fits.
    fails_too c.from_residual.result c.in_err-job.field-0.0 c.args.fields.now (op.OnJob c.args.order c.args.fields.now) c.from_residual.ensures.1 (c.in_err-job.ensures.only fits)
