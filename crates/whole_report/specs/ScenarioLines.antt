-- The lines of a report's scenario.
use Rattle.std.specs.Prelude.{◌≡◌, ◌≢◌, ℕ, true, List, [], ◌∷◌, ◌++◌, get_or}
use Rattle.std.specs.List.{AllByRecursion}
use Rattle.report_reader.specs.Lines.{lacks}
use Rattle.scenario_reader.specs.Answers.{SpellsScenario}
use Rattle.whole_scenario.specs.declared.whole.Scenario.{Scenario}

-- some text spells the scenario, so it keeps all rules
pub record IsScenario (s : Scenario) : Type 0 where
  pub text : List ℕ
  pub spells : SpellsScenario text s

-- a line that does not begin with `b`, without its line feed
pub record IsOther (line : List ℕ) : Type 0 where
  pub clean : lacks 10 line ≡ true
  pub other : get_or line 0 0 ≢ 98

-- these lines, each with its line feed
abbrev pub lines_text : List (List ℕ) → List ℕ
lines_text [] = []
lines_text (l ∷ ls) = l ++ 10 ∷ lines_text ls

-- the text is lines none of which begins with `b`
pub record AreLines (text : List ℕ) : Type 0 where
  pub lines : List (List ℕ)
  pub others : AllByRecursion IsOther lines
  pub is : text ≡ lines_text lines

-- the tail stands behind such lines
pub record HasTail (text tail : List ℕ) : Type 0 where
  pub lines : List (List ℕ)
  pub others : AllByRecursion IsOther lines
  pub is : text ≡ lines_text lines ++ tail
