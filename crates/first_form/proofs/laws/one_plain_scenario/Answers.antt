use Rattle.first_form.proofs.PlainForms.{one_scenario}
use Rattle.first_form.proofs.laws.one_plain_scenario.Goals as goal

pub returns : goal.returns
returns c = one_scenario
