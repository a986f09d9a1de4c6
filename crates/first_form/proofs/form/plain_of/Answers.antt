use Rattle.std.proofs.Common.{rules, ◌≡◌, []}
use Rattle.first_form.proofs.PlainForms.{form_of, whole_is}
use Rattle.first_form.proofs.form.plain_of.Goals as goal

pub returns-clause-past : goal.returns-clause-past
returns-clause-past c = λ failed s is.
    let none : c.args.scenario.jobs ≡ [] = search rules in
    c.checked.ensures.past failed (form_of c.args.scenario _ s is (whole_is c.args.scenario c.in_ok-actors.actors none c.in_ok-actors.ensures.found))
