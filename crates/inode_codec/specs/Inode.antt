-- Inodes, and the bytes that spell them.
use Rattle.std.specs.Prelude.{◌≡◌, ℕ, ◌+◌, ◌-◌, ◌/◌, ◌^◌, ◌<◌, ◌≤◌, if◌then◌else◌, List, [], ◌∷◌, ◌++◌, length, sum_by}
use Rattle.std.specs.List.{AllByRecursion}
use Rattle.std.specs.Int.{to_be_bytes, w16, w32, w64}
use Rattle.domains.specs.Drive.{AreApart}
use Rattle.domains.specs.Place.{Place, IsPlace}
use Rattle.domains.specs.Level.{Level, IsLevel, named_levels, same_level}
use Rattle.domains.specs.AtLevel.{drives_of}
use Rattle.domains.specs.declared.group.Group.{Group}
use Rattle.inode_codec.specs.declared.inode.Inode.{Inode}

-- how many units of this length hold this many bytes
abbrev pub units_for : ℕ → ℕ → ℕ
units_for unit size = (size + (unit - 1)) / unit

-- how many data units the groups have
abbrev pub data_units : List Group → ℕ
data_units groups = sum_by (λ (g : Group). g.n) groups

-- the group's numbers are within the limits of the format
pub record IsInodeGroup (g : Group) : Type 0 where
  pub generation : g.generation < 2 ^ 32
  pub some_units : 1 ≤ g.n
  pub units : g.n ≤ 16
  pub some_more : 1 ≤ g.m
  pub more : g.m ≤ 7
  pub striped : 1 < g.n → g.m ≤ 4
  pub whole : length g.places ≡ g.n + g.m
  pub places : AllByRecursion IsPlace g.places
  pub apart : AreApart (drives_of g.places)

-- the generations differ
abbrev pub AreGenerations : List Group → Type 0
AreGenerations [] = Unit {0}
AreGenerations (g ∷ gs) = AllByRecursion (λ (h : Group). g.generation ≡ h.generation → ⊥) gs × AreGenerations gs

-- the inode can be spelled
pub record IsInode (i : Inode) : Type 0 where
  pub level : IsLevel i.level
  pub least_unit : 8 ≤ i.unit
  pub most_unit : i.unit ≤ 131072
  pub size : i.size ≤ 2 ^ 29
  pub count : length i.groups ≤ 256
  pub groups : AllByRecursion IsInodeGroup i.groups
  pub generations : AreGenerations i.groups
  pub sum : data_units i.groups ≡ units_for i.unit i.size

-- the place of a level in these rows of the table, which begin at this place
abbrev pub code_from : ℕ → List (Level × List ℕ) → Level → ℕ
code_from n [] level = n
code_from n (named ∷ rest) level = if same_level named.0 level then n else code_from (n + 1) rest level

-- the place of a level in the table, from 0
abbrev pub level_code : Level → ℕ
level_code level = code_from 0 named_levels level

-- a place: its node, its drive, its slot
unfoldable pub place_bytes : Place → List ℕ
place_bytes s = s.drive.node ∷ s.drive.drive ∷ to_be_bytes w16 s.slot

abbrev pub places_bytes : List Place → List ℕ
places_bytes [] = []
places_bytes (s ∷ ss) = place_bytes s ++ places_bytes ss

-- a group: its generation, n, m, and its places by position
unfoldable pub group_bytes : Group → List ℕ
group_bytes g = to_be_bytes w32 g.generation ++ (g.n ∷ g.m ∷ []) ++ places_bytes g.places

abbrev pub groups_bytes : List Group → List ℕ
groups_bytes [] = []
groups_bytes (g ∷ gs) = group_bytes g ++ groups_bytes gs

-- the head of an inode: the mark IN, format 1, the level, the unit, the size, and how many groups
unfoldable pub head_bytes : Level → ℕ → ℕ → ℕ → List ℕ
head_bytes level unit size groups =
    (0x49 ∷ 0x4E ∷ 1 ∷ level_code level ∷ []) ++ to_be_bytes w32 unit ++ to_be_bytes w64 size ++ to_be_bytes w16 groups

-- an inode: the mark IN, format 1, its level, the unit, the size, how many groups, and each of them
unfoldable pub inode_bytes : Inode → List ℕ
inode_bytes i =
    (0x49 ∷ 0x4E ∷ 1 ∷ level_code i.level ∷ [])
    ++ to_be_bytes w32 i.unit ++ to_be_bytes w64 i.size ++ to_be_bytes w16 (length i.groups) ++ groups_bytes i.groups
