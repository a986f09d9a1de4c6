-- Logs within the limits of a file.
use Rattle.std.specs.Prelude.{◌≤◌, List, length}
use Rattle.std.specs.List.{AllByRecursion}
use Rattle.domains.specs.Shape.{IsShape}
use Rattle.domains.specs.Level.{IsLevel}
use Rattle.file_history.specs.World.{World}
use Rattle.file_history.specs.declared.entry.FileEvent.{FileEvent}
use Rattle.file_history.specs.declared.entry.FileEvent.TheVariants.{Created, Deleted, Written, Shown, LevelSet, Placed, Dead, Barred, Cleared, Marked, Refused}
use Rattle.file_history.specs.declared.entry.NotedEntry.{NotedEntry}

-- a level that the event requests is one of the table
abbrev pub RequestsLevel : FileEvent → Type 0
RequestsLevel (Created inode) = Unit {0}
RequestsLevel Deleted = Unit {0}
RequestsLevel (Written offset len size change) = Unit {0}
RequestsLevel (Shown offset len bytes) = Unit {0}
RequestsLevel (LevelSet level) = IsLevel level
RequestsLevel (Placed job change) = Unit {0}
RequestsLevel (Dead generation position) = Unit {0}
RequestsLevel (Barred job drives) = Unit {0}
RequestsLevel (Cleared job drives) = Unit {0}
RequestsLevel (Marked job count) = Unit {0}
RequestsLevel (Refused why) = Unit {0}

-- the cluster, the levels and the number of entries are within the limits of a file
pub record IsWithinLimits (world : World) (log : List NotedEntry) : Type 0 where
  pub cluster : IsShape world.shape
  pub declared : IsLevel world.level
  pub levels : AllByRecursion (λ (t : NotedEntry). RequestsLevel t.entry.event) log
  pub entries : length log ≤ 4194304
