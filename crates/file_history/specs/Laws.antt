-- The laws of what is stored.
use Rattle.std.specs.Prelude.{ℕ, ◌≤◌, List, Some}
use Rattle.std.specs.List.{AllByRecursion}
use Rattle.domains.specs.Place.{Place}
use Rattle.domains.specs.Level.{Level}
use Rattle.domains.specs.declared.group.Group.{Group}
use Rattle.file_history.specs.World.{Moment}
use Rattle.file_history.specs.Layout.{Layout, layout_after, group_list}
use Rattle.file_history.specs.Live.{live_units}
use Rattle.file_history.specs.Stored.{IsRooted, IsStored, IsDetermined}
use Rattle.file_history.specs.declared.entry.NotedEntry.{NotedEntry}

-- each group of the map has as many live units as data units, and the inode has one
pub record LeavesEnough (now : Moment) (l : Layout) : Type 0 where
  pub map : AllByRecursion (λ (g : Group). g.n ≤ live_units now l g) l.groups
  pub root : AllByRecursion (λ (g : Group). 1 ≤ live_units now l g) (group_list l.inode)

-- what is stored is determined by its live units, where they are enough
abbrev pub LiveUnitsDetermine : Type 0
LiveUnitsDetermine = (now : Moment) (held : Place → List ℕ) (l : Layout) (bytes : List ℕ) → IsRooted l
    → IsStored (λ s. Some (held s)) now.shape.unit l bytes → LeavesEnough now l → IsDetermined now held l bytes

-- what a log says of a file without an inode is that it has no groups and no bytes
abbrev pub LayoutsAreRooted : Type 0
LayoutsAreRooted = (declared : Level) (log : List NotedEntry) → IsRooted (layout_after declared log)
