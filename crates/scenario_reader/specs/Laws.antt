-- Laws of scenarios and their texts.
use Rattle.std.specs.Prelude.{◌≡◌, ℕ, List}
use Rattle.scenario_reader.specs.Answers.{SpellsScenario}
use Rattle.scenario_table.specs.Canonical.{IsPlainTable, Numbers, table_text}
use Rattle.scenario_table.specs.declared.draft.FileRow.{FileRow}
use Rattle.whole_scenario.specs.Canonical.{canonical_text}
use Rattle.whole_scenario.specs.declared.whole.Scenario.{Scenario}

-- two scenarios that one text spells are the same
abbrev pub SpellsOne : Type 0
SpellsOne = (text : List ℕ) (s t : Scenario) → SpellsScenario text s → SpellsScenario text t → s ≡ t

-- the canonical text of a scenario that a text spells, spells it too
abbrev pub CanonicalSpells : Type 0
CanonicalSpells = (text : List ℕ) (s : Scenario) → SpellsScenario text s → SpellsScenario (canonical_text s) s

-- the canonical text of the scenario is that of a table whose texts stand for themselves between quotes
pub record HasPlainText (s : Scenario) : Type 0 where
  pub numbers : Numbers
  pub files : List FileRow
  pub actors : List (List (List ℕ))
  pub plain : IsPlainTable numbers files actors
  pub is : canonical_text s ≡ table_text numbers files actors

-- a scenario that a text spells has such a canonical text
abbrev pub CanonicalIsPlain : Type 0
CanonicalIsPlain = (text : List ℕ) (s : Scenario) → SpellsScenario text s → HasPlainText s
