-- What each answer of a read tells.
use Rattle.std.specs.Prelude.{◌≡◌, ℕ, ◌+◌, ◌≤◌, ◌⊎◌, true, false, [], List, Option, Some, Result, Ok, Err, length}
use Rattle.board.specs.declared.board_view.View.{View}
use Rattle.domains.specs.declared.by.By.{By}
use Rattle.domains.specs.declared.group.Lost.{Lost as Loss}
use Rattle.flex_io.specs.declared.raw_place.RawPlace.{RawPlace}
use Rattle.fabric.specs.Cells.{FabricView}
use Rattle.fabric.specs.declared.hand.Hand.{Hand}
use Rattle.file_history.specs.Bytes.{slice_of}
use Rattle.file_history.specs.Live.{IsReadable, first_short, range}
use Rattle.file_history.specs.declared.entry.FileEvent.TheVariants.{Shown}
use Rattle.file_history.specs.declared.entry.Refused.TheVariants.{ReadAbsent, ReadLost}
use Rattle.file_core.specs.FileView.{FileView, bytes_of, layout_of, now_of, stored_groups, stored_inode, with_note}
use Rattle.file_core.specs.Notes.{last_epoch_of, noted}
use Rattle.pulled_groups.specs.Pulls.{AreAllPulled}
use Rattle.striped_groups.specs.StoredGroups.{AllTell}
use Rattle.pulled_groups.specs.declared.pull_groups.PulledGroup.{PulledGroup}
use Rattle.file_turns.specs.PathRoom.{entries_of_path, with_room}
use Rattle.file_turns.specs.Paths.{Begins, IsFull, IsRefused, SeesBoard}
use Rattle.read_path.specs.declared.reading.ReadRefusal.{ReadRefusal}
use Rattle.read_path.specs.declared.reading.ReadRefusal.TheVariants.{Absent, Lost, LogFull, NoMemory}

module _ {S : Type 0} where
  -- the file is absent, and the refusal is noted
  pub record FindsNoFile (by : By) (view : View) (offset len : ℕ) (x y : FileView S) : Type 0 where
    pub absent : (layout_of x).present ≡ false
    pub refused : IsRefused by view (ReadAbsent offset len) x y

  -- of the groups that the range needs this is the first that has too few live units, and the refusal is noted
  pub record FindsLoss (by : By) (view : View) (offset len : ℕ) (loss : Loss) (x y : FileView S) : Type 0 where
    pub present : (layout_of x).present ≡ true
    pub short : first_short (now_of x view) (layout_of x) (range offset len) ≡ Some loss
    pub refused : IsRefused by view (ReadLost offset len loss) x y

  -- the path began at a view, at which this holds
  pub record AtView (what : View → Type 0) (f : FabricView) (x : FileView S) (old new : Hand S) : Type 0 where
    pub view : View
    pub begins : Begins f x view old new
    pub did : what view

  -- the hand is as it was, or has looked at the board
  abbrev pub LooksAtMost : FabricView → ℕ → Hand S → Hand S → Type 0
  LooksAtMost f least old new = (new ≡ old) ⊎ ((view : View) × SeesBoard f least view old new)

module _ {S : Type 0} (place_of : S → RawPlace) (content : S → Option (List ℕ)) (len_of : S → ℕ) where
  -- slots of the file may have been read; nothing else is changed
  pub record ReadsAtMost (x y : FileView S) : Type 0 where
    pub kept : y ≡ record x { groups = y.groups; inode = y.inode; spare = y.spare }
    pub same : stored_groups place_of content len_of y ≡ stored_groups place_of content len_of x
    pub same_inode : stored_inode place_of content len_of y ≡ stored_inode place_of content len_of x

  -- memory ran out after room was found in the log: nothing is noted
  pub record RunsOut (f : FabricView) (x y : FileView S) (old new : Hand S) : Type 0 where
    pub room : length x.notes + entries_of_path x ≤ x.room
    pub file : ReadsAtMost x y
    pub hand : LooksAtMost f (last_epoch_of x.notes) old new

module _ {S : Type 0} (place_of : S → RawPlace) (content : S → Option (List ℕ)) (len_of reads : S → ℕ) where
  -- each group that the range needs has enough live units; the first of them are read, and the bytes are noted as shown. They are
  -- the file's, if all slots tell
  pub record ShowsRange (by : By) (view : View) (offset len : ℕ) (bytes : List ℕ) (x y : FileView S) : Type 0 where
    pub present : (layout_of x).present ≡ true
    pub readable : IsReadable (now_of x view) (layout_of x) (range offset len)
    pub groups : List PulledGroup
    pub pulled : AreAllPulled place_of content len_of reads x.shape view (layout_of x).dead (layout_of x).size (range offset len) x.inode y.inode x.groups y.groups groups
    pub same : stored_groups place_of content len_of y ≡ stored_groups place_of content len_of x
    pub same_inode : stored_inode place_of content len_of y ≡ stored_inode place_of content len_of x
    pub shown : AllTell content → bytes ≡ slice_of (bytes_of x) offset len
    pub spare : ℕ
    pub noted : y ≡ record (with_note (with_room spare x) (noted by view (Shown offset len bytes) [])) { groups = y.groups; inode = y.inode }

  -- what the answer tells of the file before and after, at a view
  abbrev pub TellsAt : Result (List ℕ) ReadRefusal → By → View → ℕ → ℕ → FileView S → FileView S → Type 0
  TellsAt (Ok bytes) by view offset len x y = ShowsRange by view offset len bytes x y
  TellsAt (Err Absent) by view offset len x y = FindsNoFile by view offset len x y
  TellsAt (Err (Lost loss)) by view offset len x y = FindsLoss by view offset len loss x y
  TellsAt (Err LogFull) by view offset len x y = ⊥
  TellsAt (Err NoMemory) by view offset len x y = ReadsAtMost place_of content len_of x y

  -- what the answer tells of the file and of the hand, before and after
  abbrev pub ReadTells : Result (List ℕ) ReadRefusal → FabricView → By → ℕ → ℕ → FileView S → FileView S → Hand S → Hand S → Type 0
  ReadTells (Ok bytes) f by offset len x y old new = AtView (λ view. ShowsRange by view offset len bytes x y) f x old new
  ReadTells (Err Absent) f by offset len x y old new = AtView (λ view. FindsNoFile by view offset len x y) f x old new
  ReadTells (Err (Lost loss)) f by offset len x y old new = AtView (λ view. FindsLoss by view offset len loss x y) f x old new
  ReadTells (Err LogFull) f by offset len x y old new = IsFull x y old new
  ReadTells (Err NoMemory) f by offset len x y old new = RunsOut place_of content len_of f x y old new
