-- What each answer of a creation tells.
use Rattle.std.specs.Prelude.{◌≡◌, ℕ, ◌+◌, ◌≤◌, true, false, [], ◌++◌, List, length, Option, replicate, Result, Ok, Err, ⊤}
use Rattle.board.specs.declared.board_view.View.{View}
use Rattle.domains.specs.declared.by.By.{By}
use Rattle.domains.specs.declared.room.TooFew.{TooFew}
use Rattle.flex_io.specs.declared.raw_place.RawPlace.{RawPlace}
use Rattle.fabric.specs.Cells.{FabricView}
use Rattle.fabric.specs.declared.hand.Hand.{Hand}
use Rattle.inode_codec.specs.Inode.{inode_bytes}
use Rattle.file_history.specs.Refusals.{HasTooFew, room_at}
use Rattle.file_history.specs.declared.entry.Refused.TheVariants.{CreateExists, CreateNoRoom, CreateTooFew}
use Rattle.file_core.specs.Creation.{created_on, empty_inode}
use Rattle.file_core.specs.FileView.{FileView, layout_of, now_of}
use Rattle.placement_order.specs.Order.{DrawRequest}
use Rattle.placement.specs.PlacedGroups.{FindsNoPlace, Places}
use Rattle.placement.specs.declared.refusal.NoRoom.{NoRoom}
use Rattle.slot_search.specs.HandSeats.{drives_at}
use Rattle.turn_cell.specs.Seats.{seat_view}
use Rattle.file_turns.specs.NewInodes.{AsksForInode}
use Rattle.file_turns.specs.PathRoom.{entries_of_path, with_room}
use Rattle.file_turns.specs.Paths.{Begins, IsFull, IsRefused}
use Rattle.write_path.specs.declared.creation.CreateRefusal.{CreateRefusal}
use Rattle.write_path.specs.declared.creation.CreateRefusal.TheVariants.{Exists, TooFew as TooFewOf, NoRoom as NoRoomOf, LogFull, NoMemory}

module _ {S : Type 0} where
  -- the units of the inode of a new file: its bytes, once for each unit of a mirrored group at the level
  abbrev pub units_of_inode : FileView S → List (List ℕ)
  units_of_inode x = replicate ((layout_of x).requested.m + 1) (inode_bytes (empty_inode x.level x.shape.unit))

  -- the file is there, and the refusal is noted
  pub record FindsFile (f : FabricView) (by : By) (x y : FileView S) (old new : Hand S) : Type 0 where
    pub view : View
    pub begins : Begins f x view old new
    pub present : (layout_of x).present ≡ true
    pub refused : IsRefused by view CreateExists x y

  -- the file is absent, and its usable drives have too little room
  pub record FindsTooFew (f : FabricView) (by : By) (fault : TooFew) (x y : FileView S) (old new : Hand S) : Type 0 where
    pub view : View
    pub begins : Begins f x view old new
    pub absent : (layout_of x).present ≡ false
    pub few : HasTooFew (now_of x view) (layout_of x) fault
    pub refused : IsRefused by view (CreateTooFew fault) x y

  -- the file is absent, and there is room for its inode on the usable drives
  pub record MayCreate (f : FabricView) (x : FileView S) (view : View) (old looked : Hand S) : Type 0 where
    pub begins : Begins f x view old looked
    pub absent : (layout_of x).present ≡ false
    pub enough : (layout_of x).requested.m + 1 ≤ room_at (now_of x view) (layout_of x)

  -- memory ran out, though the log has the room for a path's entries, and the file is as it was
  pub record StopsCreating (x y : FileView S) : Type 0 where
    pub room : length x.notes + entries_of_path x ≤ x.room
    pub file : y ≡ with_room y.spare x

module _ {S : Type 0} (place_of : S → RawPlace) (content : S → Option (List ℕ)) (len_of faults : S → ℕ) where
  -- the inode is placed, and the file is created on its slots; the hand's seat at the board makes no turn meanwhile
  pub record PlacesInode (by : By) (view : View) (x y : FileView S) (old new : Hand S) : Type 0 where
    pub request : DrawRequest
    pub asks : AsksForInode x view request
    pub slots : List S
    pub placed : Places place_of content len_of faults request (units_of_inode x) slots old new
    pub board : seat_view new.board ≡ seat_view old.board
    pub spare : ℕ
    pub created : y ≡ created_on place_of by view slots (with_room spare x)

  -- the inode finds no place, and the refusal is noted
  pub record PlacesNoInode (by : By) (view : View) (told : NoRoom) (x y : FileView S) (old new : Hand S) : Type 0 where
    pub request : DrawRequest
    pub asks : AsksForInode x view request
    pub found : FindsNoPlace place_of content len_of faults request (units_of_inode x) told old new
    pub board : seat_view new.board ≡ seat_view old.board
    pub refused : IsRefused by view (CreateNoRoom told.need told.got (drives_at told.empty)) x y

  -- what the answer tells of an absent file whose usable drives have the room
  abbrev pub PlaceTells : {T : Type 0} → Result T CreateRefusal → By → View → FileView S → FileView S → Hand S → Hand S → Type 0
  PlaceTells (Ok done) by view x y old new = PlacesInode by view x y old new
  PlaceTells (Err Exists) by view x y old new = ⊥
  PlaceTells (Err (TooFewOf fault)) by view x y old new = ⊥
  PlaceTells (Err (NoRoomOf told)) by view x y old new = PlacesNoInode by view told x y old new
  PlaceTells (Err LogFull) by view x y old new = ⊥
  PlaceTells (Err NoMemory) by view x y old new = y ≡ with_room y.spare x

  -- the file is created
  pub record CreatesFile (f : FabricView) (by : By) (x y : FileView S) (old new : Hand S) : Type 0 where
    pub view : View
    pub looked : Hand S
    pub may : MayCreate f x view old looked
    pub inode : PlacesInode by view x y looked new

  -- the usable drives have the room, but too few of them a free slot that can be written
  pub record FindsNoRoom (f : FabricView) (by : By) (told : NoRoom) (x y : FileView S) (old new : Hand S) : Type 0 where
    pub view : View
    pub looked : Hand S
    pub may : MayCreate f x view old looked
    pub none : PlacesNoInode by view told x y looked new

  -- what the answer tells of the file and of the hand, before and after
  abbrev pub CreateTells : {T : Type 0} → Result T CreateRefusal → FabricView → By → FileView S → FileView S → Hand S → Hand S → Type 0
  CreateTells (Ok done) f by x y old new = CreatesFile f by x y old new
  CreateTells (Err Exists) f by x y old new = FindsFile f by x y old new
  CreateTells (Err (TooFewOf fault)) f by x y old new = FindsTooFew f by fault x y old new
  CreateTells (Err (NoRoomOf told)) f by x y old new = FindsNoRoom f by told x y old new
  CreateTells (Err LogFull) f by x y old new = IsFull x y old new
  CreateTells (Err NoMemory) f by x y old new = StopsCreating x y

-- the refusal is noted and answered, or memory ran out
abbrev pub NotesNoRoom : {S : Type 0} → CreateRefusal → By → View → NoRoom → FileView S → FileView S → Type 0
NotesNoRoom Exists by view told x y = ⊥
NotesNoRoom (TooFewOf fault) by view told x y = ⊥
NotesNoRoom (NoRoomOf answered) by view told x y = (answered ≡ told) × IsRefused by view (CreateNoRoom told.need told.got (drives_at told.empty)) x y
NotesNoRoom LogFull by view told x y = ⊥
NotesNoRoom NoMemory by view told x y = y ≡ x

-- this holds, unless memory ran out
abbrev pub UnlessOutOfMemory : {T : Type 0} → Result T CreateRefusal → Type 0 → Type 0
UnlessOutOfMemory (Ok done) holds = holds
UnlessOutOfMemory (Err Exists) holds = holds
UnlessOutOfMemory (Err (TooFewOf fault)) holds = holds
UnlessOutOfMemory (Err (NoRoomOf told)) holds = holds
UnlessOutOfMemory (Err LogFull) holds = holds
UnlessOutOfMemory (Err NoMemory) holds = ⊤
