-- What each answer of a removal tells.
use Rattle.std.specs.Prelude.{◌≡◌, ℕ, true, false, ◌⊎◌, [], ◌++◌, Result, Ok, Err, None, ⊤}
use Rattle.board.specs.declared.board_view.View.{View}
use Rattle.domains.specs.declared.by.By.{By}
use Rattle.flex_io.specs.declared.raw_place.RawPlace.{RawPlace}
use Rattle.fabric.specs.Cells.{FabricView}
use Rattle.fabric.specs.declared.hand.Hand.{Hand}
use Rattle.file_history.specs.declared.entry.FileEvent.TheVariants.{Deleted}
use Rattle.file_history.specs.declared.entry.Refused.TheVariants.{DeleteAbsent}
use Rattle.file_core.specs.FileView.{FileView, layout_of, with_note}
use Rattle.file_core.specs.Notes.{noted}
use Rattle.striped_groups.specs.StoredGroups.{list_of}
use Rattle.file_turns.specs.PathRoom.{with_room}
use Rattle.file_turns.specs.Paths.{Begins, IsFull, IsRefused, LacksMemory}
use Rattle.write_path.specs.Releases.{ReleasesEach, slots_in}
use Rattle.write_path.specs.declared.removal.RemoveRefusal.{RemoveRefusal}
use Rattle.write_path.specs.declared.removal.RemoveRefusal.TheVariants.{Absent, LogFull, NoMemory}

module _ {S : Type 0} where
  -- a file that is there is deleted, and holds no slot; the hand saw this view, and is as it was then
  pub record DeletesFile (f : FabricView) (by : By) (view : View) (x y : FileView S) (old looked : Hand S) : Type 0 where
    pub begins : Begins f x view old looked
    pub present : (layout_of x).present ≡ true
    pub spare : ℕ
    pub noted : y ≡ record (with_note (with_room spare x) (noted by view Deleted [])) { groups = []; inode = None }

  -- an absent file is not deleted, and the refusal is noted
  pub record FindsNoFile (f : FabricView) (by : By) (x y : FileView S) (old new : Hand S) : Type 0 where
    pub view : View
    pub begins : Begins f x view old new
    pub absent : (layout_of x).present ≡ false
    pub refused : IsRefused by view DeleteAbsent x y

  -- memory ran out: nothing is changed, or the file is deleted and a slot of it is lost
  abbrev pub StopsRemoving : FabricView → By → FileView S → FileView S → Hand S → Hand S → Type 0
  StopsRemoving f by x y old new = LacksMemory x y old new ⊎ ((view : View) × (looked : Hand S) × DeletesFile f by view x y old looked)

module _ {S : Type 0} (place_of : S → RawPlace) where
  -- a file that is there is deleted, and its slots are released: the groups' in map order, by position, and then the inode's
  pub record RemovesFile (f : FabricView) (by : By) (x y : FileView S) (old new : Hand S) : Type 0 where
    pub view : View
    pub looked : Hand S
    pub deletes : DeletesFile f by view x y old looked
    pub released : ReleasesEach place_of (slots_in (x.groups ++ list_of x.inode)) f.shape view looked new

  -- what the answer tells of the file and of the hand, before and after
  abbrev pub RemoveTells : {T : Type 0} → Result T RemoveRefusal → FabricView → By → FileView S → FileView S → Hand S → Hand S → Type 0
  RemoveTells (Ok done) f by x y old new = RemovesFile f by x y old new
  RemoveTells (Err Absent) f by x y old new = FindsNoFile f by x y old new
  RemoveTells (Err LogFull) f by x y old new = IsFull x y old new
  RemoveTells (Err NoMemory) f by x y old new = StopsRemoving f by x y old new

-- this holds, unless memory ran out
abbrev pub UnlessNoMemory : {T : Type 0} → Result T RemoveRefusal → Type 0 → Type 0
UnlessNoMemory (Ok done) holds = holds
UnlessNoMemory (Err Absent) holds = holds
UnlessNoMemory (Err LogFull) holds = holds
UnlessNoMemory (Err NoMemory) holds = ⊤
