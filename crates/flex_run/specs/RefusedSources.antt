-- Which source is played, and why another one is refused.
use Rattle.std.specs.Prelude.{codes, ◌≡◌, ◌⊎◌, ℕ, List, ◌++◌, IsUtf8}
use Rattle.std.specs.Fmt.{decimal}
use Rattle.scenario.specs.declared.scenario.Scenario.{Scenario}
use Rattle.scenario_rules.specs.Actors.{no_place}
use Rattle.scenario_rules.specs.RuleWords.{word_of}
use Rattle.scenario_rules.specs.Rules.{IsBadText}
use Rattle.scenario_rules.specs.declared.rule.BadScenario.{BadScenario}
use Rattle.scenario_rules.specs.declared.rule.Rule.{Rule}
use Rattle.scenario_rules.specs.declared.rule.Rule.TheVariants.{Utf8, Unbuilt}
use Rattle.scenario_reader.specs.Answers.{SpellsScenario}
use Rattle.whole_scenario.specs.declared.whole.Scenario as whole
use Rattle.first_form.specs.FirstForm.{IsFirstForm}
use Rattle.first_form.specs.Wholes.{IsPlainOf, whole_of}

-- the bytes are UTF-8 and spell this scenario, which keeps all rules and is of the first form
pub record IsPlayed (input : List ℕ) (s : Scenario) : Type 0 where
  pub utf8 : IsUtf8 input
  pub spelled : SpellsScenario input (whole_of s)
  pub form : IsFirstForm s

-- the bytes spell some scenario that is played
abbrev pub IsPlayable : List ℕ → Type 0
IsPlayable input = (s : Scenario) × IsPlayed input s

-- a rule that no operation breaks
abbrev pub broken : Rule → BadScenario
broken rule = record { rule = rule; place = no_place }

-- the bytes are not UTF-8
pub record IsNoText (input : List ℕ) (bad : BadScenario) : Type 0 where
  pub not_utf8 : ¬ (IsUtf8 input)
  pub is : bad ≡ broken Utf8

-- the bytes are a text, and this is the first rule that it breaks, at its first place
pub record BreaksRule (input : List ℕ) (bad : BadScenario) : Type 0 where
  pub utf8 : IsUtf8 input
  pub first : IsBadText input bad.rule bad.place

-- the bytes spell a scenario that keeps all rules and is past the first form
pub record IsPastForm (input : List ℕ) (bad : BadScenario) : Type 0 where
  pub utf8 : IsUtf8 input
  pub scenario : whole.Scenario
  pub spelled : SpellsScenario input scenario
  pub past : (s : Scenario) → IsPlainOf scenario s → ⊥
  pub is : bad ≡ broken Unbuilt

-- why a source is refused
abbrev pub IsRefused : List ℕ → BadScenario → Type 0
IsRefused input bad = IsNoText input bad ⊎ BreaksRule input bad ⊎ IsPastForm input bad

-- the line that names the rule and the place
unfoldable pub refusal_line : BadScenario → List ℕ
refusal_line bad =
    codes "fault scenario " ++ word_of bad.rule ++ codes " " ++ decimal bad.place.actor ++ codes " " ++ decimal bad.place.op ++ codes "\n"
