-- Units that the entries of a file write.
use Rattle.std.specs.Prelude.{◌≡◌, ℕ, ◌≤◌, true, List, [], ◌∷◌, ◌++◌, Option, Some, IfSome}
use Rattle.std.specs.List.{AllByRecursion}
use Rattle.domains.specs.Place.{Place}
use Rattle.domains.specs.declared.group.Group.{Group}
use Rattle.inode_codec.specs.Inode.{inode_bytes}
use Rattle.file_history.specs.World.{World}
use Rattle.file_history.specs.Bytes.{bytes_after}
use Rattle.file_history.specs.Layout.{Layout, all_groups, group_list, is_taken, layout_after}
use Rattle.file_history.specs.Stored.{HoldsGroup, inode_of}
use Rattle.file_history.specs.declared.entry.NotedEntry.{NotedEntry}
use Rattle.map_laws.specs.MappedGroups.{IsMapped, bytes_of_units}

-- what the places hold, where they tell
abbrev pub Contents : Type 0
Contents = Place → Option (List ℕ)

-- each place tells
abbrev pub tells : (Place → List ℕ) → Contents
tells held = λ s. Some (held s)

-- an entry that took a file from one layout to another, with these bytes then, left the units that stay as they were; each new group
-- holds its part of the bytes, and a new inode's units spell the inode
pub record AreWritten (unit : ℕ) (before after : Layout) (bytes : List ℕ) (held later : Contents) : Type 0 where
  pub stay : (s : Place) → is_taken (all_groups before) s ≡ true → is_taken (all_groups after) s ≡ true → later s ≡ held s
  pub groups : (g : Group) (first : ℕ) → IsMapped after.groups g first → before.next ≤ g.generation → HoldsGroup later unit g (bytes_of_units unit bytes first g.n)
  pub inode : AllByRecursion (λ (g : Group).
      before.next ≤ g.generation → AllByRecursion (λ (s : Place). IfSome (later s) (λ content. content ≡ inode_bytes (inode_of unit after))) g.places) (group_list after.inode)

-- each of these entries, behind the log, wrote its units: the contents after each of them are these
abbrev pub AreWrittenFrom : List NotedEntry → World → List NotedEntry → Contents → List Contents → Type 0
AreWrittenFrom [] world log held [] = Unit {0}
AreWrittenFrom [] world log held (h ∷ hs) = ⊥
AreWrittenFrom (t ∷ ts) world log held [] = ⊥
AreWrittenFrom (t ∷ ts) world log held (h ∷ hs) =
    AreWritten world.shape.unit (layout_after world.level log) (layout_after world.level (log ++ t ∷ [])) (bytes_after (log ++ t ∷ [])) held h
    × AreWrittenFrom ts world (log ++ t ∷ []) h hs

-- the last of some values, of which this one is the first
abbrev pub last_of : {A : Type 0} → List A → A → A
last_of [] held = held
last_of (h ∷ hs) held = last_of hs h
