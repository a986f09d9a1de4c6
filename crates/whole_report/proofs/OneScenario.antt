-- The scenario whose canonical text a text is.
use Rattle.std.proofs.Common.{◌≡◌, ℕ, List, Option, Some, Result, Ok, Err, IfOk, IfSome, ap, ◌∙◌, subst}
use Rattle.scenario_reader.specs.Answers.{Answers, SpellsScenario}
use Rattle.scenario_reader.specs.Laws.{CanonicalSpells}
use Rattle.scenario_rules.specs.declared.rule.BadScenario.{BadScenario}
use Rattle.scenario_rules.specs.declared.rule.ScenarioFault.{ScenarioFault}
use Rattle.scenario_rules.specs.declared.rule.ScenarioFault.TheVariants.{Bad}
use Rattle.whole_scenario.specs.Canonical.{canonical_text}
use Rattle.whole_scenario.specs.declared.whole.Scenario.{Scenario}
use Rattle.whole_report.specs.ScenarioLines.{IsScenario}

-- a scenario is spelled by its canonical text
pub spells_here : CanonicalSpells → (text : List ℕ) (s : Scenario) → IsScenario s → canonical_text s ≡ text → SpellsScenario text s
spells_here again text s kept is = subst (λ (t : List ℕ). SpellsScenario t s) is (again kept.text s kept.spells)

-- what was kept is the only one
pub kept_only : {E : Type 0} → CanonicalSpells → (text : List ℕ) (read : Scenario) (r : Result (Option Scenario) E) → ((s : Scenario) → SpellsScenario text s → read ≡ s)
    → IfOk r (λ o. canonical_text read ≡ text → o ≡ Some read) → IfOk r (λ o. (s : Scenario) → IsScenario s → canonical_text s ≡ text → o ≡ Some s)
kept_only again text read (Ok o) same only = λ s kept is.
    let one : read ≡ s = same s (spells_here again text s kept is) in
    only (ap canonical_text one ∙ is) ∙ ap (λ (x : Scenario). Some x) one
kept_only again text read (Err e) same only = tt

-- a text that was refused spells no scenario
pub refused_none : (r : Result Scenario ScenarioFault) (f : ScenarioFault) (b : BadScenario) (s : Scenario) → r ≡ Err f → f ≡ Bad b → Answers r s → ⊥
refused_none r f b s is what h = subst (λ (x : Result Scenario ScenarioFault). Answers x s) (is ∙ ap (λ (g : ScenarioFault). Err g) what) h

-- what is said of a scenario that was found
pub found_in : (o : Option Scenario) (s : Scenario) (text : List ℕ) → o ≡ Some s → IfSome o (λ x. IsScenario x × (canonical_text x ≡ text)) → IsScenario s × (canonical_text s ≡ text)
found_in o s text is found = subst (λ (p : Option Scenario). IfSome p (λ x. IsScenario x × (canonical_text x ≡ text))) is found
