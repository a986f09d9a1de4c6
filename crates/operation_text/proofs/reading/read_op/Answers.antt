use Rattle.std.proofs.lemmas.Result.{IfOk-weaker}
use Rattle.operation_text.proofs.OpKinds.{spelled, lone_spelled, only_spaced, only_lone}
use Rattle.operation_text.proofs.reading.read_op.Goals as goal

pub returns-in-Some-clause-found : goal.returns-in-Some-clause-found
returns-in-Some-clause-found c =
    IfOk-weaker c.op_with_fields.result _ _ (λ o is. spelled c.args.text.now c.in-Some.word.now c.in-Some.fields.now o c.in-Some.ensures.found is) c.op_with_fields.ensures.found

pub returns-in-Some-clause-only : goal.returns-in-Some-clause-only
returns-in-Some-clause-only c =
    only_spaced c.args.text.now c.in-Some.word.now c.in-Some.fields.now c.op_with_fields.result c.in-Some.ensures.found c.in-Some.ensures.only c.op_with_fields.ensures.only

pub returns-in-None-clause-found : goal.returns-in-None-clause-found
returns-in-None-clause-found c = IfOk-weaker c.lone_op.result _ _ (λ o is. lone_spelled c.args.text.now o is.0 is.1) c.lone_op.ensures.found

pub returns-in-None-clause-only : goal.returns-in-None-clause-only
returns-in-None-clause-only c = only_lone c.args.text.now c.lone_op.result c.in-None.ensures.only c.lone_op.ensures.only
