-- The entry by which a generation left the file.
use Rattle.std.specs.Prelude.{ℕ, ◌+◌, Bool, List, [], ◌∷◌, if◌then◌else◌, Option, None, Some}
use Rattle.domains.specs.Level.{Level}
use Rattle.file_heads.specs.LeftGenerations.{has_generation}
use Rattle.file_history.specs.Layout.{Layout, empty_layout, layout_after_event}
use Rattle.file_history.specs.declared.entry.FileEvent.{FileEvent}
use Rattle.file_history.specs.declared.entry.NotedEntry.{NotedEntry}
use Rattle.file_core.specs.Accounts.{groups_taken}

-- the event takes a group of this generation away from the layout, out of the map or as its inode
abbrev pub takes_away : FileEvent → Layout → ℕ → Bool
takes_away event l generation = has_generation generation (groups_taken event l)

-- the last of these entries that takes the generation away, by its number, or else the one before them; `count` entries stand before
-- them, which leave this layout
abbrev pub left_from : List NotedEntry → Level → Layout → ℕ → ℕ → Option ℕ → Option ℕ
left_from [] declared l count generation before = before
left_from (t ∷ ts) declared l count generation before =
    left_from ts declared (layout_after_event declared t.entry.event l) (count + 1) generation
    (if takes_away t.entry.event l generation then Some (count + 1) else before)

-- the entry by which the generation left the map, or ceased to be the inode's; the first entry has the number 1
abbrev pub left_by : Level → List NotedEntry → ℕ → Option ℕ
left_by declared log generation = left_from log declared (empty_layout declared) 0 generation None
