use Rattle.std.proofs.Common.{rules, ◌≡◌, ◌∷◌}
use Rattle.first_form.proofs.PlainLists.{not_in_scripts, part_failed}
use Rattle.first_form.proofs.plain.plain_scripts.Goals as goal

pub returns-in_err-plain_script-clause-past : goal.returns-in_err-plain_script-clause-past
returns-in_err-plain_script-clause-past c = λ failed plain is.
    let first : c.loop-script.script-iterator.rest.items ≡ c.in-Some.script ∷ c.next.new.self.rest.items = search rules in
    let past = c.in_err-plain_script.ensures.past (part_failed c.from_residual.result _ _ c.from_residual.ensures.1 failed) in
    not_in_scripts c.loop-script.plain c.in-Some.script _ _ c.args.scripts plain c.loop-script.invariant first past is
