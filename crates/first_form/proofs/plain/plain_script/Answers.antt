use Rattle.std.proofs.Common.{rules, ◌≡◌, ◌∷◌}
use Rattle.first_form.proofs.PlainLists.{not_in_script, part_failed}
use Rattle.first_form.proofs.plain.plain_script.Goals as goal

pub returns-in_err-add_op-clause-past : goal.returns-in_err-add_op-clause-past
returns-in_err-add_op-clause-past c = λ failed plain is.
    let first : c.loop-op.op-iterator.rest.items ≡ c.in-Some.op ∷ c.next.new.self.rest.items = search rules in
    let past = c.in_err-add_op.ensures.past (part_failed c.from_residual.result _ _ c.from_residual.ensures.1 failed) in
    not_in_script c.loop-op.plain c.in-Some.op _ _ c.args.script plain c.loop-op.invariant first past is
