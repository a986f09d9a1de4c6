use Rattle.std.proofs.lemmas.Result.{IfOk-weaker}
use Rattle.operation_text.proofs.OpKinds.{found_op, only_op, no_verb}
use Rattle.operation_text.proofs.reading.op_with_fields.Goals as goal

pub returns-in-Some-clause-found : goal.returns-in-Some-clause-found
returns-in-Some-clause-found c =
    IfOk-weaker c.op_at.result _ _ (λ o is. found_op c.in-Some.verb c.args.word.now c.args.fields.now o c.in-Some.ensures.found is) c.op_at.ensures.found

pub returns-in-Some-clause-only : goal.returns-in-Some-clause-only
returns-in-Some-clause-only c =
    only_op c.args.word.now c.args.fields.now c.in-Some.verb c.op_at.result c.in-Some.ensures.only c.op_at.ensures.only

pub returns-in-None-clause-only : goal.returns-in-None-clause-only
returns-in-None-clause-only c = λ o fits has w is. no_verb c.args.word.now c.in-None.ensures.only o has w
