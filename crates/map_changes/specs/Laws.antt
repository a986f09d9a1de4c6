-- The laws of a changed map.
use Rattle.std.specs.Prelude.{◌≡◌, ℕ, ◌+◌, ◌^◌, ◌<◌, ◌≤◌, List, [], ◌∷◌, ◌++◌, length}
use Rattle.std.specs.List.{AllByRecursion}
use Rattle.domains.specs.Place.{IsPlace}
use Rattle.domains.specs.Level.{Level, IsLevel}
use Rattle.domains.specs.AtLevel.{AtLevel}
use Rattle.domains.specs.declared.group.Group.{Group}
use Rattle.inode_codec.specs.Inode.{IsInode, data_units, inode_bytes, units_for}
use Rattle.inode_codec.specs.declared.inode.Inode.{Inode}
use Rattle.file_history.specs.Layout.{Layout, all_groups, places_of}
use Rattle.file_history.specs.Stored.{inode_of}
use Rattle.file_history.specs.Step.{AreDistinct, AreNumbered}
use Rattle.map_changes.specs.ChangedMaps.{AreFree, inode_with, spliced}

-- A map in which new groups at a level stand in the place of a run can be spelled.
abbrev pub ChangedInodesAreSpelled : Type 0
ChangedInodesAreSpelled =
    (unit size first count : ℕ) (level : Level) (l : Layout) (new : List Group) (inode : Group)
    → IsInode (inode_of unit l) → IsLevel level
    → AllByRecursion (λ (g : Group). g.generation < l.next) l.groups
    → AreNumbered l.next new inode → l.next + length new < 2 ^ 32
    → AllByRecursion (λ (g : Group). AtLevel g level) new → AllByRecursion (λ (g : Group). AllByRecursion IsPlace g.places) new
    → length (spliced l.groups first count new) ≤ 256
    → data_units (spliced l.groups first count new) ≡ units_for unit size
    → IsInode (inode_with level unit size (spliced l.groups first count new))

-- Where new units stand at free places, no place of the changed map comes twice.
abbrev pub ChangedPlacesDiffer : Type 0
ChangedPlacesDiffer =
    (l : Layout) (first count : ℕ) (new : List Group) (inode : Group)
    → AreDistinct (places_of (all_groups l)) → AreFree l (places_of new ++ inode.places)
    → AreDistinct (places_of (spliced l.groups first count new ++ inode ∷ []))

-- The text of an inode fits into a slot.
abbrev pub InodesFitSlots : Type 0
InodesFitSlots = (i : Inode) → IsInode i → length (inode_bytes i) ≤ 262144
