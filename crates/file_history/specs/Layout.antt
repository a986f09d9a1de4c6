-- What a file's log says of the file, but for its bytes: whether it is there, its level, and where its units stand.
use Rattle.std.specs.Prelude.{ℕ, ◌+◌, ◌==◌, Bool, true, false, not, List, [], ◌∷◌, ◌++◌, length, drop, take_while, Option, Some, None}
use Rattle.std.specs.List.{list_any, flat_map}
use Rattle.domains.specs.Place.{Place, same_place}
use Rattle.domains.specs.Level.{Level}
use Rattle.domains.specs.declared.drive_set.DriveSet.{DriveSet}
use Rattle.domains.specs.declared.group.Group.{Group}
use Rattle.file_history.specs.declared.entry.Change.{Change}
use Rattle.file_history.specs.declared.entry.FileEvent.{FileEvent}
use Rattle.file_history.specs.declared.entry.FileEvent.TheVariants.{Created, Deleted, Written, Shown, LevelSet, Placed, Dead, Barred, Cleared, Marked, Refused}
use Rattle.file_history.specs.declared.entry.NotedEntry.{NotedEntry}

-- a unit: the generation of its group, and its position there
pub record Unit_ : Type 0 where
  pub generation : ℕ
  pub position : ℕ

-- what the log so far says
pub record Layout : Type 0 where
  -- the last accepted create or delete is a create
  pub present : Bool
  -- the level requested now; of an absent file the declared one
  pub requested : Level
  -- the groups in map order
  pub groups : List Group
  -- the inode's group, of a file that is present
  pub inode : Option Group
  -- the level requested at the entry that placed the inode
  pub level : Level
  -- the size that the last write told since the create, in bytes
  pub size : ℕ
  pub dead : List Unit_
  -- the sets of drives that were barred, the first bar's first
  pub barred : List DriveSet
  -- the next generation, above all that were used
  pub next : ℕ

-- before any entry
abbrev pub empty_layout : Level → Layout
empty_layout declared = record {
  present = false;
  requested = declared;
  groups = [];
  inode = None;
  level = declared;
  size = 0;
  dead = [];
  barred = [];
  next = 0;
}

-- the generation is one of these
abbrev pub is_among : List ℕ → ℕ → Bool
is_among generations g = list_any (λ (n : ℕ). n == g) generations

-- the map with the new groups where the run of the old ones stood, or at its end where there is no old one
abbrev pub replaced : List ℕ → List Group → List Group → List Group
replaced old new groups =
    let front : List Group = take_while (λ (g : Group). not (is_among old g.generation)) groups in
    front ++ new ++ drop (length front + length old) groups

-- the layout after a change
abbrev pub with_change : Change → Layout → Layout
with_change change l = record l {
  groups = replaced change.old change.new l.groups;
  inode = Some change.inode;
  level = l.requested;
  next = change.inode.generation + 1;
}

-- the layout after an event of a file that was declared with this level
abbrev pub layout_after_event : Level → FileEvent → Layout → Layout
layout_after_event declared (Created inode) l = record l {
  present = true;
  requested = declared;
  groups = [];
  inode = Some inode;
  level = declared;
  size = 0;
  next = inode.generation + 1;
}
layout_after_event declared Deleted l = record l { present = false; requested = declared; groups = []; inode = None; size = 0 }
layout_after_event declared (Written offset len size change) l = record (with_change change l) { size = size }
layout_after_event declared (Shown offset len bytes) l = l
layout_after_event declared (LevelSet level) l = record l { requested = level }
layout_after_event declared (Placed job change) l = with_change change l
layout_after_event declared (Dead generation position) l = record l { dead = l.dead ++ record { generation = generation; position = position } ∷ [] }
layout_after_event declared (Barred job drives) l = record l { barred = l.barred ++ drives ∷ [] }
layout_after_event declared (Cleared job drives) l = l
layout_after_event declared (Marked job count) l = l
layout_after_event declared (Refused why) l = l

abbrev pub layout_from : List NotedEntry → Level → Layout → Layout
layout_from [] declared l = l
layout_from (t ∷ ts) declared l = layout_from ts declared (layout_after_event declared t.entry.event l)

-- what the log says of a file that was declared with this level
abbrev pub layout_after : Level → List NotedEntry → Layout
layout_after declared log = layout_from log declared (empty_layout declared)

-- the groups of the option
abbrev pub group_list : Option Group → List Group
group_list None = []
group_list (Some g) = g ∷ []

-- all groups of the layout: those of the map, and then the inode's
abbrev pub all_groups : Layout → List Group
all_groups l = l.groups ++ group_list l.inode

abbrev pub places_of : List Group → List Place
places_of groups = flat_map (λ (g : Group). g.places) groups

-- a unit of the groups stands there
abbrev pub is_taken : List Group → Place → Bool
is_taken groups s = list_any (same_place s) (places_of groups)
