-- The protection levels.
use Rattle.std.specs.Prelude.{codes, ℕ, ◌+◌, ◌*◌, ◌≤◌, ◌==◌, Bool, ◌&&◌, if◌then◌else◌, List, [], ◌∷◌, map, Contains}

-- a level: at most w data units in a group, m correction units, at most k units of a group on a node
pub record Level : Type 0 where
  pub w : ℕ
  pub m : ℕ
  pub k : ℕ

-- the two are one level
abbrev pub same_level : Level → Level → Bool
same_level a b = ((a.w == b.w) && (a.m == b.m)) && (a.k == b.k)

abbrev row : ℕ → ℕ → ℕ → Level
row w m k = record { w = w; m = m; k = k }

-- two copies
abbrev pub two_copies : Level
two_copies = row 1 1 1

-- the table of levels, with their names
abbrev pub named_levels : List (Level × List ℕ)
named_levels =
    (row 16 1 1, codes "+1n") ∷ (row 16 2 1, codes "+2n") ∷ (row 16 3 1, codes "+3n") ∷ (row 16 4 1, codes "+4n")
    ∷ (row 16 2 2, codes "+2d:1n") ∷ (row 16 3 3, codes "+3d:1n") ∷ (row 16 4 4, codes "+4d:1n")
    ∷ (row 16 4 2, codes "+4d:2n") ∷ (row 16 3 2, codes "+3d:1n1d")
    ∷ (two_copies, codes "2x") ∷ (row 1 2 1, codes "3x") ∷ (row 1 3 1, codes "4x") ∷ (row 1 4 1, codes "5x")
    ∷ (row 1 5 1, codes "6x") ∷ (row 1 6 1, codes "7x") ∷ (row 1 7 1, codes "8x") ∷ []

-- the level is a row of the table
abbrev pub IsLevel : Level → Type 0
IsLevel level = Contains (map (λ (named : Level × List ℕ). named.0) named_levels) level

abbrev name_in : List (Level × List ℕ) → Level → List ℕ
name_in [] level = []
name_in (named ∷ rest) level = if same_level named.0 level then named.1 else name_in rest level

-- the name of a level
abbrev pub level_name : Level → List ℕ
level_name level = name_in named_levels level

-- the level bears the loss of these numbers of nodes and of further drives
abbrev pub Bears : Level → ℕ → ℕ → Type 0
Bears level nodes drives = nodes * level.k + drives ≤ level.m
