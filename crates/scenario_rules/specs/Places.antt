-- The operations of all actors, each at its place.
use Rattle.std.specs.Prelude.{◌≡◌, ℕ, ◌+◌, List, [], ◌∷◌, ◌++◌, ◌⊎◌}
use Rattle.operation_rules.specs.declared.place.Place.{Place}
use Rattle.operation_rules.specs.declared.place.PlacedOp.{PlacedOp}
use Rattle.operation_text.specs.NamedOps.{SpellsOp}
use Rattle.operation_text.specs.declared.named_op.NamedOp.{NamedOp}
use Rattle.scenario_rules.specs.Actors.{at}
use Rattle.scenario_rules.specs.declared.placing.OpStop.{OpStop}
use Rattle.scenario_rules.specs.declared.placing.OpStop.TheVariants.{NoOp, NoMemory}

-- the texts of an actor at their places, where the first has this number
abbrev pub script_places : List (List ℕ) → ℕ → ℕ → List (Place × List ℕ)
script_places [] actor number = []
script_places (text ∷ texts) actor number = (at actor number, text) ∷ script_places texts actor (number + 1)

-- the texts of all actors at their places, where the first actor has this number
abbrev pub all_places : List (List (List ℕ)) → ℕ → List (Place × List ℕ)
all_places [] actor = []
all_places (texts ∷ more) actor = script_places texts actor 1 ++ all_places more (actor + 1)

-- the text spells this operation, and no other
pub record SpellsOnly (text : List ℕ) (op : NamedOp) : Type 0 where
  pub spells : SpellsOp text op
  pub only : (o : NamedOp) → SpellsOp text o → op ≡ o

-- the operations are those that the texts spell, at the same places
abbrev pub AreOps : List (Place × List ℕ) → List PlacedOp → Type 0
AreOps [] [] = Unit {0}
AreOps [] (x ∷ xs) = ⊥
AreOps (p ∷ ps) [] = ⊥
AreOps (p ∷ ps) (x ∷ xs) = ((x.place ≡ p.0) × SpellsOnly p.1 x.what) × AreOps ps xs

-- the place is that of the first text that spells no operation
abbrev pub IsFirstNoOp : List (Place × List ℕ) → Place → Type 0
IsFirstNoOp [] place = ⊥
IsFirstNoOp (p ∷ ps) place =
    ((place ≡ p.0) × ((op : NamedOp) → SpellsOp p.1 op → ⊥))
    ⊎ (((op : NamedOp) × SpellsOp p.1 op) × IsFirstNoOp ps place)

-- a text spells no operation, or memory ran out
abbrev pub IsOpStop : List (Place × List ℕ) → OpStop → Type 0
IsOpStop places (NoOp place) = IsFirstNoOp places place
IsOpStop places NoMemory = Unit {0}

-- some more operations were read, those of the texts
pub record AreMoreOps (places : List (Place × List ℕ)) (before after : List PlacedOp) : Type 0 where
  pub more : List PlacedOp
  pub joined : after ≡ before ++ more
  pub are : AreOps places more
