use Rattle.scenario_reader.proofs.KeptRules.{all_inside, each_an_actor, few_files, few_jobs}
use Rattle.scenario_reader.proofs.OneScenario.{scenario_same, stopped}
use Rattle.scenario_reader.proofs.reading.read.Goals as goal

pub returns-in_err-named-clause-only : goal.returns-in_err-named-clause-only
returns-in_err-named-clause-only c = λ s spells.
    stopped c.args.text.now c.in_err-named.field-0.0 c.from_residual.result s c.from_residual.ensures.1 c.in_err-named.ensures.refused spells

pub resolved-requires-clause-files : goal.resolved-requires-clause-files
resolved-requires-clause-files c = let found = c.in_ok-named.ensures.found in few_files found.draft c.in_ok-named.named found.named

pub resolved-requires-clause-jobs : goal.resolved-requires-clause-jobs
resolved-requires-clause-jobs c = let found = c.in_ok-named.ensures.found in few_jobs found.draft c.in_ok-named.named found.named

pub resolved-requires-clause-inside : goal.resolved-requires-clause-inside
resolved-requires-clause-inside c = let found = c.in_ok-named.ensures.found in all_inside found.draft c.in_ok-named.named found.named

pub resolved-requires-clause-actors : goal.resolved-requires-clause-actors
resolved-requires-clause-actors c = let found = c.in_ok-named.ensures.found in each_an_actor found.draft c.in_ok-named.named found.named

pub returns-in-Ok-clause-only : goal.returns-in-Ok-clause-only
returns-in-Ok-clause-only c = λ s spells.
    scenario_same c.args.text.now c.in_ok-named.named c.in-Ok.scenario s c.in_ok-named.ensures.found c.in-Ok.ensures spells
