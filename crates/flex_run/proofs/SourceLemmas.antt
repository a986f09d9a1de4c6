-- Which sources are played, and why others are refused.
use Rattle.std.proofs.Common.{◌≡◌, ℕ, List, Result, Ok, Err, inl, inr, refl, sym, subst}
use Rattle.std.specs.Prelude.{IsUtf8}
use Rattle.scenario.specs.declared.scenario.Scenario.{Scenario}
use Rattle.scenario_rules.specs.Rules.{IsBadText, IsTextFault}
use Rattle.scenario_rules.specs.declared.rule.BadScenario.{BadScenario}
use Rattle.scenario_rules.specs.declared.rule.Rule.TheVariants.{Unbuilt}
use Rattle.scenario_rules.specs.declared.rule.ScenarioFault.{ScenarioFault}
use Rattle.scenario_rules.specs.declared.rule.ScenarioFault.TheVariants.{Bad}
use Rattle.scenario_reader.specs.Answers.{Answers, SpellsScenario}
use Rattle.whole_scenario.specs.declared.whole.Scenario as whole
use Rattle.first_form.specs.Wholes.{IsPlainOf, whole_of}
use Rattle.flex_run.specs.RefusedSources.{IsPlayed, IsPlayable, IsRefused, broken}

module _ (bytes text : List ℕ) (same : text ≡ bytes) where
  spelled_in_text : (s : whole.Scenario) → SpellsScenario bytes s → SpellsScenario text s
  spelled_in_text s spelled = subst (λ (t : List ℕ). SpellsScenario t s) (sym same) spelled

  -- the text breaks a rule
  pub rule_broken : (e : ScenarioFault) (bad : BadScenario) → IsUtf8 bytes → e ≡ Bad bad → IsTextFault text e → IsRefused bytes bad
  rule_broken e bad utf8 is fault =
      let told : IsBadText text bad.rule bad.place = subst (λ (f : ScenarioFault). IsTextFault text f) is fault in
      inr (inl (record { utf8 = utf8; first = subst (λ (t : List ℕ). IsBadText t bad.rule bad.place) same told }))

  pub broken_not_played : (e : ScenarioFault) (bad : BadScenario) → e ≡ Bad bad
      → ((s : whole.Scenario) → SpellsScenario text s → Answers (Err e) s) → ¬ (IsPlayable bytes)
  broken_not_played e bad is only = λ playable.
      subst (λ (f : ScenarioFault). Answers (Err f) (whole_of playable.0)) is
      (only (whole_of playable.0) (spelled_in_text (whole_of playable.0) playable.1.spelled))

  -- the text spells a scenario past the first form
  pub past_refused : (w : whole.Scenario) → IsUtf8 bytes → SpellsScenario text w → ((s : Scenario) → IsPlainOf w s → ⊥) → IsRefused bytes (broken Unbuilt)
  past_refused w utf8 spelled past = inr (inr (record {
    utf8 = utf8;
    scenario = w;
    spelled = subst (λ (t : List ℕ). SpellsScenario t w) same spelled;
    past = past;
    is = refl;
  }))

  pub past_not_played : (w : whole.Scenario) → ((s : whole.Scenario) → SpellsScenario text s → Answers (Ok w) s)
      → ((s : Scenario) → IsPlainOf w s → ⊥) → ¬ (IsPlayable bytes)
  past_not_played w only past = λ playable.
      past playable.0 (record {
        form = playable.1.form;
        is = only (whole_of playable.0) (spelled_in_text (whole_of playable.0) playable.1.spelled);
      })

  -- the text spells a scenario of the first form
  pub first_form_played : (w : whole.Scenario) (s : Scenario) → IsUtf8 bytes → SpellsScenario text w → IsPlainOf w s → IsPlayed bytes s
  first_form_played w s utf8 spelled plain = record {
    utf8 = utf8;
    spelled = subst (λ (t : List ℕ). SpellsScenario t (whole_of s)) same (subst (λ (x : whole.Scenario). SpellsScenario text x) plain.is spelled);
    form = plain.form;
  }
