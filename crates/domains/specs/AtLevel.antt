-- What it is for a group to be at a level.
use Rattle.std.specs.Prelude.{◌≡◌, ℕ, ◌+◌, ◌==◌, ◌≤◌, List, length, map, count_by}
use Rattle.std.specs.List.{AllByRecursion}
use Rattle.domains.specs.Drive.{Drive, AreApart}
use Rattle.domains.specs.Place.{Place}
use Rattle.domains.specs.Level.{Level}
use Rattle.domains.specs.declared.group.Group.{Group}

-- the drives of the places
abbrev pub drives_of : List Place → List Drive
drives_of places = map (λ (s : Place). s.drive) places

-- how many of the places are on the node
abbrev pub units_on : ℕ → List Place → ℕ
units_on node places = count_by (λ (s : Place). s.drive.node == node) places

-- the group has at most w data units and the level's correction units, on different drives, at most k on the node of each
pub record AtLevel (group : Group) (level : Level) : Type 0 where
  pub some : 1 ≤ group.n
  pub narrow : group.n ≤ level.w
  pub corrected : group.m ≡ level.m
  pub whole : length group.places ≡ group.n + group.m
  pub apart : AreApart (drives_of group.places)
  pub spread : AllByRecursion (λ (s : Place). units_on s.drive.node group.places ≤ level.k) group.places

-- the group is a mirror at the level, as an inode is whatever its length
pub record InodeAt (group : Group) (level : Level) : Type 0 where
  pub one : group.n ≡ 1
  pub at_level : AtLevel group level
