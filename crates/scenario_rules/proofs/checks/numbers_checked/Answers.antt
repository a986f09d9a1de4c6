use Rattle.std.proofs.Common.{sym, subst}
use Rattle.scenario_rules.specs.Rules.{IsBroken, IsFaultOf, number_rules}
use Rattle.scenario_rules.specs.declared.rule.ScenarioFault.{ScenarioFault}
use Rattle.scenario_rules.proofs.RuleOrder.{numbers_kept, number_fault}
use Rattle.scenario_rules.proofs.checks.numbers_checked.Goals as goal

pub returns-in-Ok-clause-kept : goal.returns-in-Ok-clause-kept
returns-in-Ok-clause-kept c = λ ok. numbers_kept c.args.draft.now c.in-Ok.ensures.kept

pub returns-in-Err-clause-refused : goal.returns-in-Err-clause-refused
returns-in-Err-clause-refused c =
    subst (λ (e : ScenarioFault). IsFaultOf (IsBroken c.args.draft.now) number_rules e) (sym c.bad_table.ensures) (number_fault c.args.draft.now c.in-Err.rule c.in-Err.ensures.broken)
