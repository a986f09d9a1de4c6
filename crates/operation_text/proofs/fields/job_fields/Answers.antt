use Rattle.operation_text.proofs.OpKinds.{job_alone}
use Rattle.operation_text.proofs.fields.job_fields.Goals as goal

pub returns-in-None-clause-only : goal.returns-in-None-clause-only
returns-in-None-clause-only c = λ job priority free fits is. job_alone c.args.text.now job priority c.in-None.ensures.only free is
