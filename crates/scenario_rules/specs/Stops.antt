-- Why a part of a scenario is not read.
use Rattle.std.specs.Prelude.{◌≡◌, List, ℕ}
use Rattle.scenario_rules.specs.declared.files.FileStop.{FileStop}
use Rattle.scenario_rules.specs.declared.files.FileStop.TheVariants.{Broken, NoMemory}

-- the rule is broken, or memory ran out
abbrev pub IsBreach : Type 0 → FileStop → Type 0
IsBreach Kept Broken = Kept → ⊥
IsBreach Kept NoMemory = Unit {0}
