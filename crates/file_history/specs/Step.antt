-- Which entry is legal after a log.
use Rattle.std.specs.Prelude.{◌≡◌, ℕ, ◌+◌, ◌<◌, ◌≤◌, true, false, ◌⊎◌, List, [], ◌∷◌, ◌++◌, length, map, Option, Some, slice_get, filter, ◌==◌, if◌then◌else◌, ⊤}
use Rattle.std.specs.List.{AllByRecursion, list_any}
use Rattle.domains.specs.Drive.{Drive, IsDrive}
use Rattle.domains.specs.DriveSet.{has}
use Rattle.domains.specs.declared.drive_set.DriveSet.{DriveSet}
use Rattle.domains.specs.Place.{Place, same_place}
use Rattle.domains.specs.Shape.{is_of}
use Rattle.domains.specs.Level.{Level}
use Rattle.domains.specs.AtLevel.{AtLevel, InodeAt}
use Rattle.domains.specs.declared.group.Group.{Group}
use Rattle.file_history.specs.World.{World, Moment, moment_at}
use Rattle.file_history.specs.Bytes.{overwrite, bytes_after, slice_of}
use Rattle.file_history.specs.Layout.{Layout, replaced, layout_after, all_groups, group_list, places_of, is_taken}
use Rattle.file_history.specs.Live.{range, is_dead, IsReadable}
use Rattle.file_history.specs.WriteRule.{affected_groups, generations_of, new_units, AreChunks}
use Rattle.file_history.specs.Refusals.{is_barred, is_usable, MayWrite, IsLegalRefusal}
use Rattle.file_history.specs.declared.entry.Change.{Change}
use Rattle.file_history.specs.declared.entry.FileEvent.{FileEvent}
use Rattle.file_history.specs.declared.entry.FileEvent.TheVariants.{Created, Deleted, Written, Shown, LevelSet, Placed, Dead, Barred, Cleared, Marked, Refused}
use Rattle.file_history.specs.declared.entry.NotedEntry.{NotedEntry}

-- the groups, and then the inode's, have the next generations in this order
abbrev pub AreNumbered : ℕ → List Group → Group → Type 0
AreNumbered next [] inode = inode.generation ≡ next
AreNumbered next (g ∷ gs) inode = (g.generation ≡ next) × AreNumbered (next + 1) gs inode

-- the place is a new one: a slot of a usable drive where no unit of the layout stands
pub record IsNewPlace (now : Moment) (l : Layout) (s : Place) : Type 0 where
  pub drive : is_of now.shape s.drive ≡ true
  pub slot : s.slot < now.shape.slots
  pub usable : is_usable now l s.drive ≡ true
  pub free : is_taken (all_groups l) s ≡ false

-- no place comes twice
abbrev pub AreDistinct : List Place → Type 0
AreDistinct [] = Unit {0}
AreDistinct (s ∷ ss) = AllByRecursion (λ (t : Place). same_place s t ≡ false) ss × AreDistinct ss

-- the places are new ones, and none comes twice
pub record AreNewPlaces (now : Moment) (l : Layout) (places : List Place) : Type 0 where
  pub each : AllByRecursion (IsNewPlace now l) places
  pub distinct : AreDistinct places

-- the file is created: its inode is at the declared level, at new places
pub record Creates (now : Moment) (l : Layout) (inode : Group) : Type 0 where
  pub absent : l.present ≡ false
  pub level : InodeAt inode l.requested
  pub number : inode.generation ≡ l.next
  pub places : AreNewPlaces now l inode.places

abbrev pub AreAtLevel : List Group → Level → Type 0
AreAtLevel groups level = AllByRecursion (λ (g : Group). AtLevel g level) groups

-- the range is written: the groups that it touches make way for new ones at the level, at new places
pub record Writes (now : Moment) (log : List NotedEntry) (l : Layout) (offset size : ℕ) (change : Change) (payload : List ℕ) : Type 0 where
  pub present : l.present ≡ true
  pub width : ℕ
  pub may : MayWrite now l offset (length payload) width
  pub old : change.old ≡ generations_of (affected_groups now.shape.unit l offset (length payload) width)
  pub chunks : AreChunks (new_units now.shape.unit l offset (length payload) width) width (map (λ (g : Group). g.n) change.new)
  pub level : AreAtLevel change.new l.requested
  pub inode : InodeAt change.inode l.requested
  pub numbers : AreNumbered l.next change.new change.inode
  pub places : AreNewPlaces now l (places_of change.new ++ change.inode.places)
  pub groups : length (replaced change.old change.new l.groups) ≤ 256
  pub new_size : size ≡ length (overwrite (bytes_after log) offset payload)

-- the range can be read: the file is there, and each group that the range needs has enough live units
pub record Shows (now : Moment) (l : Layout) (offset len : ℕ) : Type 0 where
  pub present : l.present ≡ true
  pub readable : IsReadable now l (range offset len)

-- the groups with this generation
abbrev with_generation : ℕ → List Group → List Group
with_generation generation groups = filter (λ (g : Group). g.generation == generation) groups

-- the unit at this position, counted from this one, keeps its place and is not dead, or has a new place
abbrev pub AreKeptOrNew : List Place → List Place → ℕ → Moment → Layout → ℕ → Type 0
AreKeptOrNew [] [] position now l generation = Unit {0}
AreKeptOrNew [] (t ∷ ts) position now l generation = ⊥
AreKeptOrNew (s ∷ ss) [] position now l generation = ⊥
AreKeptOrNew (s ∷ ss) (t ∷ ts) position now l generation =
    (((s ≡ t) × (is_dead l generation position ≡ false)) ⊎ IsNewPlace now l t)
    × AreKeptOrNew ss ts (position + 1) now l generation

-- the places of the new groups, but for those that the old group had
abbrev places_but : List Place → List Place → List Place
places_but old [] = []
places_but old (s ∷ ss) = if list_any (same_place s) old then places_but old ss else s ∷ places_but old ss

-- the old group keeps its n and m, and its missing units get new places
pub record Repairs (now : Moment) (l : Layout) (old new inode : Group) : Type 0 where
  pub n : new.n ≡ old.n
  pub m : new.m ≡ old.m
  pub level : AtLevel new l.requested
  pub kept : AreKeptOrNew old.places new.places 0 now l old.generation
  pub places : AreNewPlaces now l (places_but old.places new.places ++ inode.places)

-- the data units of the old group go into new groups of at most `width` data units
pub record Reshapes (now : Moment) (l : Layout) (old : Group) (new : List Group) (inode : Group) : Type 0 where
  pub width : ℕ
  pub some : 1 ≤ width
  pub narrow : width ≤ l.requested.w
  pub chunks : AreChunks old.n width (map (λ (g : Group). g.n) new)
  pub level : AreAtLevel new l.requested
  pub places : AreNewPlaces now l (places_of new ++ inode.places)

-- the change has one of the three forms: the inode alone, a repair, a new shape
abbrev pub HasPlaceForm : Moment → Layout → List Group → List Group → Group → Type 0
HasPlaceForm now l [] [] inode = AreNewPlaces now l inode.places
HasPlaceForm now l [] (g ∷ gs) inode = ⊥
HasPlaceForm now l (old ∷ []) [] inode = ⊥
HasPlaceForm now l (old ∷ []) (g ∷ []) inode = Repairs now l old g inode ⊎ Reshapes now l old (g ∷ []) inode
HasPlaceForm now l (old ∷ []) (g ∷ h ∷ gs) inode = Reshapes now l old (g ∷ h ∷ gs) inode
HasPlaceForm now l (old ∷ other ∷ rest) new inode = ⊥

-- a job places units anew
pub record Places (now : Moment) (l : Layout) (change : Change) : Type 0 where
  pub present : l.present ≡ true
  pub old : List Group
  pub mapped : AllByRecursion (λ (g : Group). with_generation g.generation l.groups ≡ g ∷ []) old
  pub generations : change.old ≡ generations_of old
  pub form : HasPlaceForm now l old change.new change.inode
  pub inode : InodeAt change.inode l.requested
  pub numbers : AreNumbered l.next change.new change.inode
  pub groups : length (replaced change.old change.new l.groups) ≤ 256

abbrev unit_place : List Place → ℕ → Option Place
unit_place places position = slice_get places position

-- the unit is one of the layout, on a drive that is up, and no entry says that it is dead
pub record Dies (now : Moment) (l : Layout) (generation position : ℕ) : Type 0 where
  pub group : Group
  pub known : with_generation generation (all_groups l) ≡ group ∷ []
  pub place : Place
  pub stands : unit_place group.places position ≡ Some place
  pub up : now.up place.drive ≡ true
  pub alive : is_dead l generation position ≡ false

-- the drives are gone, and one of them is not barred yet
pub record Bars (now : Moment) (l : Layout) (drives : DriveSet) : Type 0 where
  pub gone : (d : Drive) → IsDrive d → has drives d ≡ true → now.gone d ≡ true
  pub one : Drive
  pub is_drive : IsDrive one
  pub there : has drives one ≡ true
  pub new : is_barred l one ≡ false

-- no unit of the group is dead or stands on one of the drives
abbrev pub AreClean : List Place → ℕ → Layout → ℕ → DriveSet → Type 0
AreClean [] position l generation drives = Unit {0}
AreClean (s ∷ ss) position l generation drives =
    (is_dead l generation position ≡ false) × (has drives s.drive ≡ false) × AreClean ss (position + 1) l generation drives

-- the drives are barred, and a file that is there has each group at its level, with no dead unit, off these drives
pub record Clears (l : Layout) (drives : DriveSet) : Type 0 where
  pub barred : (d : Drive) → IsDrive d → has drives d ≡ true → is_barred l d ≡ true
  pub groups : l.present ≡ true → AreAtLevel l.groups l.requested
  pub inode : l.present ≡ true → AllByRecursion (λ (g : Group). InodeAt g l.requested) (group_list l.inode)
  pub clean : AllByRecursion (λ (g : Group). AreClean g.places 0 l g.generation drives) (all_groups l)

-- the event is legal at this moment, after the log, which says this layout; of the bytes that a read shows `ShowsBytes` speaks
abbrev pub IsEvent : Moment → List NotedEntry → Layout → List ℕ → FileEvent → Type 0
IsEvent now log l payload (Created inode) = Creates now l inode
IsEvent now log l payload Deleted = l.present ≡ true
IsEvent now log l payload (Written offset len size change) =
    (len ≡ length payload) × (1 ≤ len) × Writes now log l offset size change payload
IsEvent now log l payload (Shown offset len bytes) = Shows now l offset len
IsEvent now log l payload (LevelSet level) = l.present ≡ true
IsEvent now log l payload (Placed job change) = Places now l change
IsEvent now log l payload (Dead generation position) = Dies now l generation position
IsEvent now log l payload (Barred job drives) = Bars now l drives
IsEvent now log l payload (Cleared job drives) = Clears l drives
IsEvent now log l payload (Marked job count) = count ≡ length (places_of (all_groups l))
IsEvent now log l payload (Refused why) = IsLegalRefusal now l why

-- a read shows the bytes of its range, as much of it as the file has
abbrev pub ShowsBytes : List NotedEntry → FileEvent → Type 0
ShowsBytes log (Created inode) = Unit {0}
ShowsBytes log Deleted = Unit {0}
ShowsBytes log (Written offset len size change) = Unit {0}
ShowsBytes log (Shown offset len bytes) = bytes ≡ slice_of (bytes_after log) offset len
ShowsBytes log (LevelSet level) = Unit {0}
ShowsBytes log (Placed job change) = Unit {0}
ShowsBytes log (Dead generation position) = Unit {0}
ShowsBytes log (Barred job drives) = Unit {0}
ShowsBytes log (Cleared job drives) = Unit {0}
ShowsBytes log (Marked job count) = Unit {0}
ShowsBytes log (Refused why) = Unit {0}

-- the entry is legal after the log: its epoch is none that the board has not reached, and none before an earlier entry's; the
-- bytes that it shows are the file's where it is known what slots hold
pub record IsFileStepWhere (known : Type 0) (world : World) (log : List NotedEntry) (t : NotedEntry) : Type 0 where
  pub reached : t.entry.epoch ≤ world.epochs
  pub later : AllByRecursion (λ (earlier : NotedEntry). earlier.entry.epoch ≤ t.entry.epoch) log
  pub event : IsEvent (moment_at world t.entry.epoch) log (layout_after world.level log) t.payload t.entry.event
  pub shown : known → ShowsBytes log t.entry.event

-- each of these entries is legal after those before it, where it is known what slots hold in the bytes shown too
abbrev pub IsLegalFrom : List NotedEntry → Type 0 → World → List NotedEntry → Type 0
IsLegalFrom [] known world log = Unit {0}
IsLegalFrom (t ∷ ts) known world log = IsFileStepWhere known world log t × IsLegalFrom ts known world (log ++ t ∷ [])

-- each entry of the log is legal after those before it, where it is known what slots hold in the bytes shown too
abbrev pub IsLegalLogWhere : Type 0 → World → List NotedEntry → Type 0
IsLegalLogWhere known world log = IsLegalFrom log known world []

-- the entry is legal after the log
abbrev pub IsFileStep : World → List NotedEntry → NotedEntry → Type 0
IsFileStep world log t = IsFileStepWhere ⊤ world log t

-- each entry of the log is legal after those before it
abbrev pub IsLegalLog : World → List NotedEntry → Type 0
IsLegalLog world log = IsLegalLogWhere ⊤ world log
