-- Which text spells a scenario, and what a reading answers.
use Rattle.std.specs.Prelude.{◌≡◌, ℕ, List, Result, Ok, Err}
use Rattle.scenario_reader.specs.Resolved.{scenario_of}
use Rattle.scenario_rules.specs.Rules.{SpellsNamed}
use Rattle.scenario_rules.specs.declared.reading.NamedScenario.{NamedScenario}
use Rattle.scenario_rules.specs.declared.rule.ScenarioFault.{ScenarioFault}
use Rattle.scenario_rules.specs.declared.rule.ScenarioFault.TheVariants.{Bad, NoMemory}
use Rattle.whole_scenario.specs.declared.whole.Scenario.{Scenario}

-- the text spells the scenario, and keeps all rules
pub record SpellsScenario (text : List ℕ) (s : Scenario) : Type 0 where
  pub named : NamedScenario
  pub spells : SpellsNamed text named
  pub is : s ≡ scenario_of named

-- the answer is this scenario, unless memory ran out
abbrev pub Answers : Result Scenario ScenarioFault → Scenario → Type 0
Answers (Ok x) s = x ≡ s
Answers (Err (Bad bad)) s = ⊥
Answers (Err NoMemory) s = Unit {0}
