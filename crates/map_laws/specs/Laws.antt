-- What the log of a file says of its map. Entries are legal whatever bytes the reads show: each log that is legal where something is
-- known is legal so.
use Rattle.std.specs.Prelude.{◌≡◌, ℕ, ◌<◌, true, List, ◌++◌, Option}
use Rattle.domains.specs.Place.{Place}
use Rattle.domains.specs.declared.group.Group.{Group}
use Rattle.inode_codec.specs.Inode.{IsInode}
use Rattle.file_history.specs.World.{World}
use Rattle.file_history.specs.Bytes.{bytes_after}
use Rattle.file_history.specs.Layout.{layout_after}
use Rattle.file_history.specs.Step.{IsLegalLogWhere}
use Rattle.file_history.specs.Stored.{HoldsGroup, inode_of}
use Rattle.file_history.specs.declared.entry.NotedEntry.{NotedEntry}
use Rattle.map_laws.specs.MappedGroups.{IsMapped, bytes_of_units}
use Rattle.map_laws.specs.Limits.{IsWithinLimits}

-- After every list of legal entries the inode of a file that is there can be spelled.
abbrev pub InodesAreSpelled : Type 0
InodesAreSpelled =
    (world : World) (log : List NotedEntry) → IsWithinLimits world log → IsLegalLogWhere ⊥ world log
    → (layout_after world.level log).present ≡ true → IsInode (inode_of world.shape.unit (layout_after world.level log))

-- Behind a log, after every list of further entries: a group of the map whose generation is none that these entries gave stood in
-- the map before them, as it is, from the same data unit on. So it kept its generation, n, m and places, and a generation that is
-- not in the map never comes back.
abbrev pub MappedGroupsStood : Type 0
MappedGroupsStood =
    (world : World) (log more : List NotedEntry) (g : Group) (first : ℕ)
    → IsWithinLimits world (log ++ more) → IsLegalLogWhere ⊥ world (log ++ more)
    → IsMapped (layout_after world.level (log ++ more)).groups g first → g.generation < (layout_after world.level log).next
    → IsMapped (layout_after world.level log).groups g first

-- And its data units had the same bytes.
abbrev pub MappedGroupsKeepBytes : Type 0
MappedGroupsKeepBytes =
    (world : World) (log more : List NotedEntry) (g : Group) (first : ℕ)
    → IsWithinLimits world (log ++ more) → IsLegalLogWhere ⊥ world (log ++ more)
    → IsMapped (layout_after world.level (log ++ more)).groups g first → g.generation < (layout_after world.level log).next
    → bytes_of_units world.shape.unit (bytes_after (log ++ more)) first g.n ≡ bytes_of_units world.shape.unit (bytes_after log) first g.n

-- So a generation that is mapped before the entries and after them is one group, which begins with the same data unit.
abbrev pub MappedGenerationsStay : Type 0
MappedGenerationsStay =
    (world : World) (log more : List NotedEntry) (g h : Group) (first last : ℕ)
    → IsWithinLimits world (log ++ more) → IsLegalLogWhere ⊥ world (log ++ more)
    → IsMapped (layout_after world.level log).groups g first → IsMapped (layout_after world.level (log ++ more)).groups h last
    → g.generation ≡ h.generation → (h ≡ g) × (last ≡ first)

-- And what its places hold, if nobody writes there, is its part of the file still.
abbrev pub MappedGroupsStayStored : Type 0
MappedGroupsStayStored =
    (world : World) (log more : List NotedEntry) (g : Group) (first : ℕ) (held : Place → Option (List ℕ))
    → IsWithinLimits world (log ++ more) → IsLegalLogWhere ⊥ world (log ++ more)
    → IsMapped (layout_after world.level (log ++ more)).groups g first → g.generation < (layout_after world.level log).next
    → HoldsGroup held world.shape.unit g (bytes_of_units world.shape.unit (bytes_after log) first g.n)
    → HoldsGroup held world.shape.unit g (bytes_of_units world.shape.unit (bytes_after (log ++ more)) first g.n)
