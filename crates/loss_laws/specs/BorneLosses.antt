-- Losses that a level bears.
use Rattle.std.specs.Prelude.{◌≡◌, ℕ, ◌+◌, true, false, List, [], ◌∷◌, length}
use Rattle.std.specs.List.{AllByRecursion}
use Rattle.domains.specs.Drive.{Drive}
use Rattle.domains.specs.Place.{Place}
use Rattle.domains.specs.Level.{Level, Bears}
use Rattle.domains.specs.AtLevel.{AtLevel, InodeAt}
use Rattle.domains.specs.Losses.{is_lost}
use Rattle.domains.specs.declared.group.Group.{Group}
use Rattle.file_history.specs.World.{Moment}
use Rattle.file_history.specs.Layout.{Layout, all_groups, group_list}
use Rattle.file_history.specs.Live.{is_dead, is_live}

-- each unit at these places, from this position on, that does not count stands on one of the nodes or the drives
abbrev pub AreLostWith : List Place → ℕ → Moment → Layout → ℕ → List ℕ → List Drive → Type 0
AreLostWith [] position now l generation nodes drives = Unit {0}
AreLostWith (s ∷ ss) position now l generation nodes drives =
    (is_live now l generation position s ≡ false → is_lost nodes drives s ≡ true)
    × AreLostWith ss (position + 1) now l generation nodes drives

-- the group is at a level that bears what the group lost: all its units that do not count stand on some nodes and some further
-- drives, as many as the level bears. A dead unit counts as lost with its drive
pub record BearsLosses (now : Moment) (l : Layout) (g : Group) : Type 0 where
  pub level : Level
  pub at_level : AtLevel g level
  pub nodes : List ℕ
  pub drives : List Drive
  pub borne : Bears level (length nodes) (length drives)
  pub lost : AreLostWith g.places 0 now l g.generation nodes drives

-- the file is at its requested level: each group, and the inode with one data unit
pub record IsFileAtLevel (l : Layout) : Type 0 where
  pub groups : AllByRecursion (λ (g : Group). AtLevel g l.requested) l.groups
  pub inode : AllByRecursion (λ (g : Group). InodeAt g l.requested) (group_list l.inode)

-- the unit at each of these places, from this position on, is not dead
abbrev pub AreAlive : List Place → ℕ → Layout → ℕ → Type 0
AreAlive [] position l generation = Unit {0}
AreAlive (s ∷ ss) position l generation = (is_dead l generation position ≡ false) × AreAlive ss (position + 1) l generation

-- nothing but the nodes and the drives is lost: no unit of the file is dead, and a place on none of them is on a drive that is up
pub record LosesOnly (now : Moment) (l : Layout) (nodes : List ℕ) (drives : List Drive) : Type 0 where
  pub alive : AllByRecursion (λ (g : Group). AreAlive g.places 0 l g.generation) (all_groups l)
  pub up : AllByRecursion (λ (g : Group). AllByRecursion (λ (s : Place). is_lost nodes drives s ≡ false → now.up s.drive ≡ true) g.places) (all_groups l)
