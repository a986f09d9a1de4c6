-- Why one text is not read.
use Rattle.std.specs.Prelude.{◌≡◌, ℕ, List}
use Rattle.operation_rules.specs.declared.place.Place.{Place}
use Rattle.operation_text.specs.NamedOps.{SpellsOp}
use Rattle.operation_text.specs.declared.named_op.NamedOp.{NamedOp}
use Rattle.scenario_rules.specs.declared.placing.OpStop.{OpStop}
use Rattle.scenario_rules.specs.declared.placing.OpStop.TheVariants.{NoOp, NoMemory}

-- the text spells no operation, and this is its place, or memory ran out
abbrev pub IsTextStop : List ℕ → Place → OpStop → Type 0
IsTextStop text here (NoOp place) = (place ≡ here) × ((op : NamedOp) → SpellsOp text op → ⊥)
IsTextStop text here NoMemory = Unit {0}
