-- By which entry a generation left its file.
use Rattle.std.specs.Prelude.{ℕ, zero, suc, ◌==◌, Bool, List, get_or, Option, None, Some}
use Rattle.std.specs.List.{list_any}
use Rattle.domains.specs.declared.group.Group.{Group}

-- by generation, the number of an entry, 0 for none
pub record LeftList : Type 0 where
  pub items : List ℕ

-- one of the groups has this generation
abbrev pub has_generation : ℕ → List Group → Bool
has_generation generation groups = list_any (λ (g : Group). g.generation == generation) groups

-- the number of an entry, if it is one
abbrev pub entry_number : ℕ → Option ℕ
entry_number zero = None
entry_number (suc n) = Some (suc n)

-- the entry that stands at this generation, if there is one
abbrev pub entry_at : List ℕ → ℕ → Option ℕ
entry_at items generation = entry_number (get_or items generation 0)
