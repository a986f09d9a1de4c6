-- How many units a group has, and how many of them a node.
use Rattle.std.specs.Prelude.{◌≡◌, ℕ, ◌+◌, ◌≤◌, nat_le, Bool, List, length}
use Rattle.std.specs.List.{list_all}
use Rattle.domains.specs.Place.{Place}
use Rattle.domains.specs.Level.{Level}
use Rattle.domains.specs.AtLevel.{units_on}
use Rattle.domains.specs.declared.group.Group.{Group}

-- the group has at most w data units and the level's correction units, and a place for each
pub record HasUnitsOf (group : Group) (level : Level) : Type 0 where
  pub some : 1 ≤ group.n
  pub narrow : group.n ≤ level.w
  pub corrected : group.m ≡ level.m
  pub whole : length group.places ≡ group.n + group.m

-- whether at most k of the places are on the node of this one
unfoldable pub is_spread : List Place → ℕ → Place → Bool
is_spread places k s = nat_le (units_on s.drive.node places) k

-- the same of each of them
abbrev pub are_spread : List Place → ℕ → Bool
are_spread places k = list_all (is_spread places k) places
