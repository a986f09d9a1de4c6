-- What a file bears.
use Rattle.std.specs.Prelude.{◌≡◌, ℕ, ◌≤◌, List, Some, length}
use Rattle.std.specs.List.{AllByRecursion}
use Rattle.domains.specs.Drive.{Drive}
use Rattle.domains.specs.Place.{Place}
use Rattle.domains.specs.Level.{Level, Bears}
use Rattle.domains.specs.declared.group.Group.{Group}
use Rattle.file_history.specs.World.{Moment}
use Rattle.file_history.specs.Bytes.{bytes_after}
use Rattle.file_history.specs.Layout.{Layout, layout_after, all_groups, group_list}
use Rattle.file_history.specs.Live.{live_units}
use Rattle.file_history.specs.Stored.{IsStored, IsDetermined}
use Rattle.file_history.specs.declared.entry.NotedEntry.{NotedEntry}
use Rattle.loss_laws.specs.BorneLosses.{BearsLosses, IsFileAtLevel, LosesOnly}

-- A group that lost no more than its level bears has as many live units as data units.
abbrev pub GroupsKeepEnough : Type 0
GroupsKeepEnough = (now : Moment) (l : Layout) (g : Group) → BearsLosses now l g → g.n ≤ live_units now l g

-- What is stored of a file, whose inode has one data unit, is determined by its live units, if each of its groups, and its inode,
-- lost no more than its level bears.
abbrev pub FilesBearLosses : Type 0
FilesBearLosses =
    (now : Moment) (declared : Level) (log : List NotedEntry) (held : Place → List ℕ)
    → IsStored (λ s. Some (held s)) now.shape.unit (layout_after declared log) (bytes_after log)
    → AllByRecursion (λ (g : Group). g.n ≡ 1) (group_list (layout_after declared log).inode)
    → AllByRecursion (BearsLosses now (layout_after declared log)) (all_groups (layout_after declared log))
    → IsDetermined now held (layout_after declared log) (bytes_after log)

-- A file at its requested level bears the loss of any nodes and any further drives, as many as the level bears: what is stored of
-- it is determined by its live units.
abbrev pub LevelFilesBearLosses : Type 0
LevelFilesBearLosses =
    (now : Moment) (declared : Level) (log : List NotedEntry) (held : Place → List ℕ) (nodes : List ℕ) (drives : List Drive)
    → IsStored (λ s. Some (held s)) now.shape.unit (layout_after declared log) (bytes_after log)
    → IsFileAtLevel (layout_after declared log)
    → Bears (layout_after declared log).requested (length nodes) (length drives)
    → LosesOnly now (layout_after declared log) nodes drives
    → IsDetermined now held (layout_after declared log) (bytes_after log)
