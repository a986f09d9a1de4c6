-- What holds of every file.
use Rattle.std.specs.Prelude.{◌≡◌, ℕ, ◌*◌, ◌<◌, ◌≤◌, List, [], ◌++◌, length, map, replicate}
use Rattle.std.specs.List.{AllByRecursion}
use Rattle.domains.specs.Place.{IsPlaceOf}
use Rattle.domains.specs.Shape.{Shape, IsShape}
use Rattle.domains.specs.Level.{Level, IsLevel}
use Rattle.domains.specs.declared.group.Group.{Group}
use Rattle.inode_codec.specs.Inode.{inode_bytes}
use Rattle.turn_cell.specs.declared.chronicle.Note.{Note}
use Rattle.file_history.specs.Bytes.{bytes_after}
use Rattle.file_history.specs.Layout.{Layout, layout_after, group_list, all_groups, places_of}
use Rattle.file_history.specs.Step.{AreDistinct}
use Rattle.file_history.specs.Stored.{inode_of}
use Rattle.file_history.specs.declared.entry.NotedEntry.{NotedEntry}
use Rattle.file_core.specs.declared.noted.Noted.{Noted}
use Rattle.file_heads.specs.Heads.{is_there}
use Rattle.file_heads.specs.LeftGenerations.{entry_at}
use Rattle.file_core.specs.LeftEntries.{left_by}
use Rattle.file_core.specs.Notes.{AreNotedSteps, last_epoch_of, told_of}
use Rattle.striped_groups.specs.StoredGroups.{StoredGroup, StandsThere, HoldRun, SpellIn}

-- the groups and the inode are those of the layout, their slots stand at its places, all different and of the cluster, and hold
-- the bytes
pub record KeepsSlots (shape : Shape) (l : Layout) (bytes : List ℕ) (groups inode : List StoredGroup) : Type 0 where
  pub mapped : map (λ (g : StoredGroup). g.group) groups ≡ l.groups
  pub root : map (λ (g : StoredGroup). g.group) inode ≡ group_list l.inode
  pub there : l.present ≡ is_there l.inode
  pub stands : AllByRecursion StandsThere groups
  pub root_stands : AllByRecursion StandsThere inode
  pub sized : AllByRecursion (λ (g : StoredGroup). AllByRecursion (λ (n : ℕ). n ≡ shape.unit) g.lengths) groups
  pub root_sized : AllByRecursion (λ (g : StoredGroup). AllByRecursion (λ (n : ℕ). n ≡ length (inode_bytes (inode_of shape.unit l))) g.lengths) inode
  pub distinct : AreDistinct (places_of (all_groups l))
  pub within : AllByRecursion (IsPlaceOf shape) (places_of (all_groups l))
  pub spelled : AllByRecursion (λ (g : StoredGroup). SpellIn (inode_of shape.unit l) g.contents) inode
  -- the generations of the map were used before the next one
  pub used : AllByRecursion (λ (g : Group). g.generation < l.next) l.groups
  pub size : l.size ≡ length bytes
  pub zeros : ℕ
  pub run : HoldRun groups (bytes ++ replicate zeros 0) shape.unit

-- the notes are legal, and the slots hold the file that they say
pub record KeepsFile (known : Type 0) (shape : Shape) (level : Level) (room : ℕ) (notes : List (Note Noted)) (groups inode : List StoredGroup) : Type 0 where
  pub cluster : IsShape shape
  pub declared : IsLevel level
  pub legal : AreNotedSteps notes known shape level []
  pub within : length notes ≤ room
  pub few : room ≤ 4194304
  -- the epochs do not fall
  pub ordered : AllByRecursion (λ (t : NotedEntry). t.entry.epoch ≤ last_epoch_of notes) (told_of notes)
  -- an entry uses at most 257 generations
  pub numbers : (layout_after level (told_of notes)).next ≤ 257 * length notes
  pub slots : KeepsSlots shape (layout_after level (told_of notes)) (bytes_after (told_of notes)) groups inode

-- by generation, the entries by which they left are those of the log, and each generation so far has its place among them
pub record KeepsLeft (items : List ℕ) (level : Level) (log : List NotedEntry) : Type 0 where
  pub entries : (generation : ℕ) → entry_at items generation ≡ left_by level log generation
  pub long : (layout_after level log).next ≤ length items
  pub root : AllByRecursion (λ (g : Group). g.generation < (layout_after level log).next) (group_list (layout_after level log).inode)
