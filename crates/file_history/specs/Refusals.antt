-- When an operation is refused.
use Rattle.std.specs.Prelude.{◌≡◌, ℕ, ◌+◌, ◌<◌, ◌≤◌, Contains, Bool, true, false, ◌&&◌, not, List, ◌∷◌, Option, Some}
use Rattle.std.specs.List.{list_any, AllByRecursion}
use Rattle.domains.specs.Drive.{Drive, is_in, AreApart}
use Rattle.domains.specs.DriveSet.{has}
use Rattle.domains.specs.declared.drive_set.DriveSet.{DriveSet}
use Rattle.domains.specs.Room.{room_of, width_of}
use Rattle.domains.specs.declared.room.TooFew.{TooFew}
use Rattle.file_history.specs.World.{Moment}
use Rattle.file_history.specs.Layout.{Layout}
use Rattle.file_history.specs.Live.{write, range, first_short, IsReadable}
use Rattle.file_history.specs.WriteRule.{new_units, AreChunks, groups_after_write}
use Rattle.file_history.specs.declared.entry.FileEvent.{FileEvent}
use Rattle.file_history.specs.declared.entry.FileEvent.TheVariants.{Created, Deleted, Written, Shown, LevelSet, Placed, Dead, Barred, Cleared, Marked, Refused as refused}
use Rattle.file_history.specs.declared.entry.Refused.{Refused}
use Rattle.file_history.specs.declared.entry.Refused.TheVariants.{CreateExists, CreateTooFew, CreateNoRoom, DeleteAbsent, WriteAbsent, WriteTooFew, WriteTooLong, WriteLost, WriteNoRoom, ReadAbsent, ReadLost, LevelAbsent}

-- a bar of the file has the drive
abbrev pub is_barred : Layout → Drive → Bool
is_barred l d = list_any (λ (drives : DriveSet). has drives d) l.barred

-- the drive may hold new units of the file: it is up, and the file does not bar it
abbrev pub is_usable : Moment → Layout → Drive → Bool
is_usable now l d = now.up d && not (is_barred l d)

-- how many units of one group find a place
abbrev pub room_at : Moment → Layout → ℕ
room_at now l = room_of l.requested now.shape (is_usable now l)

-- how many data units a new group has
abbrev pub width_at : Moment → Layout → Option ℕ
width_at now l = width_of l.requested now.shape (is_usable now l)

-- there is room for `have` units of a group only, and the level wants `need`
pub record HasTooFew (now : Moment) (l : Layout) (fault : TooFew) : Type 0 where
  pub have : fault.have ≡ room_at now l
  pub need : fault.need ≡ l.requested.m + 1
  pub short : fault.have < fault.need

-- `got` of `need` units found a place, where these usable drives had no slot left
pub record HasNoRoom (now : Moment) (l : Layout) (need got : ℕ) (drives : List Drive) : Type 0 where
  pub short : got < need
  pub usable : AllByRecursion (λ (d : Drive). is_usable now l d ≡ true) drives
  pub apart : AreApart drives
  pub room : got ≤ room_of l.requested now.shape (λ d. is_usable now l d && not (is_in drives d))

-- `need` is the number of units of one of the groups that share `count` data units, or of the inode
abbrev pub IsUnitCount : Layout → ℕ → ℕ → ℕ → Type 0
IsUnitCount l count width need =
    (chunks : List ℕ) × AreChunks count width chunks × (n : ℕ) × Contains (1 ∷ chunks) n × (need ≡ n + l.requested.m)

-- a write of the range finds room for `width` data units in a group, and the new map has at most 256 groups
pub record MayWrite (now : Moment) (l : Layout) (offset len width : ℕ) : Type 0 where
  pub wide : width_at now l ≡ Some width
  pub groups : groups_after_write now.shape.unit l offset len width ≤ 256

-- the refusal has its cause: of several the first, in the order absent, too few drives, too many groups, lost, no room
abbrev pub IsLegalRefusal : Moment → Layout → Refused → Type 0
IsLegalRefusal now l CreateExists = l.present ≡ true
IsLegalRefusal now l (CreateTooFew fault) = (l.present ≡ false) × HasTooFew now l fault
IsLegalRefusal now l (CreateNoRoom need got drives) =
    (l.present ≡ false) × (l.requested.m + 1 ≤ room_at now l) × (need ≡ l.requested.m + 1)
    × HasNoRoom now l need got drives
IsLegalRefusal now l DeleteAbsent = l.present ≡ false
IsLegalRefusal now l (WriteAbsent offset len) = l.present ≡ false
IsLegalRefusal now l (WriteTooFew offset len fault) = (l.present ≡ true) × HasTooFew now l fault
IsLegalRefusal now l (WriteTooLong offset len count) =
    (l.present ≡ true) × (width : ℕ) × (width_at now l ≡ Some width)
    × (count ≡ groups_after_write now.shape.unit l offset len width) × (256 < count)
IsLegalRefusal now l (WriteLost offset len lost) =
    (l.present ≡ true) × (width : ℕ) × MayWrite now l offset len width
    × (first_short now l (write offset len width) ≡ Some lost)
IsLegalRefusal now l (WriteNoRoom offset len need got drives) =
    (l.present ≡ true) × (width : ℕ) × MayWrite now l offset len width
    × IsReadable now l (write offset len width)
    × IsUnitCount l (new_units now.shape.unit l offset len width) width need
    × HasNoRoom now l need got drives
IsLegalRefusal now l (ReadAbsent offset len) = l.present ≡ false
IsLegalRefusal now l (ReadLost offset len lost) =
    (l.present ≡ true) × (first_short now l (range offset len) ≡ Some lost)
IsLegalRefusal now l (LevelAbsent level) = l.present ≡ false

-- the operation was refused since its drives had no slot left
abbrev pub lacks_slots : Refused → Bool
lacks_slots CreateExists = false
lacks_slots (CreateTooFew fault) = false
lacks_slots (CreateNoRoom need got drives) = true
lacks_slots DeleteAbsent = false
lacks_slots (WriteAbsent offset len) = false
lacks_slots (WriteTooFew offset len fault) = false
lacks_slots (WriteTooLong offset len count) = false
lacks_slots (WriteLost offset len lost) = false
lacks_slots (WriteNoRoom offset len need got drives) = true
lacks_slots (ReadAbsent offset len) = false
lacks_slots (ReadLost offset len lost) = false
lacks_slots (LevelAbsent level) = false

-- the entry is a refusal since drives had no slot left
abbrev pub is_no_room : FileEvent → Bool
is_no_room (Created inode) = false
is_no_room Deleted = false
is_no_room (Written offset len size change) = false
is_no_room (Shown offset len bytes) = false
is_no_room (LevelSet level) = false
is_no_room (Placed job change) = false
is_no_room (Dead generation position) = false
is_no_room (Barred job drives) = false
is_no_room (Cleared job drives) = false
is_no_room (Marked job count) = false
is_no_room (refused why) = lacks_slots why
