-- What each answer to a request for a level tells.
use Rattle.std.specs.Prelude.{◌≡◌, ℕ, true, false, [], Result, Ok, Err}
use Rattle.board.specs.declared.board_view.View.{View}
use Rattle.domains.specs.Level.{Level}
use Rattle.domains.specs.declared.by.By.{By}
use Rattle.fabric.specs.Cells.{FabricView}
use Rattle.fabric.specs.declared.hand.Hand.{Hand}
use Rattle.file_history.specs.declared.entry.FileEvent.TheVariants.{LevelSet}
use Rattle.file_history.specs.declared.entry.Refused.TheVariants.{LevelAbsent}
use Rattle.file_core.specs.FileView.{FileView, layout_of, with_note}
use Rattle.file_core.specs.Notes.{noted}
use Rattle.file_turns.specs.PathRoom.{with_room}
use Rattle.file_turns.specs.Paths.{Begins, IsFull, IsRefused, LacksMemory}
use Rattle.level_path.specs.declared.level_setting.LevelRefusal.{LevelRefusal}
use Rattle.level_path.specs.declared.level_setting.LevelRefusal.TheVariants.{Absent, LogFull, NoMemory}

module _ {S : Type 0} where
  -- the file is there, and the request for this level is noted; nothing else is changed
  pub record SetsLevel (f : FabricView) (by : By) (level : Level) (x y : FileView S) (old new : Hand S) : Type 0 where
    pub view : View
    pub begins : Begins f x view old new
    pub present : (layout_of x).present ≡ true
    pub spare : ℕ
    pub noted : y ≡ with_note (with_room spare x) (noted by view (LevelSet level) [])

  -- the file is absent, and the refusal is noted
  pub record FindsNoFile (f : FabricView) (by : By) (level : Level) (x y : FileView S) (old new : Hand S) : Type 0 where
    pub view : View
    pub begins : Begins f x view old new
    pub absent : (layout_of x).present ≡ false
    pub refused : IsRefused by view (LevelAbsent level) x y

  -- what the answer tells of the file and of the hand, before and after
  abbrev pub LevelTells : {T : Type 0} → Result T LevelRefusal → FabricView → By → Level → FileView S → FileView S → Hand S → Hand S → Type 0
  LevelTells (Ok done) f by level x y old new = SetsLevel f by level x y old new
  LevelTells (Err Absent) f by level x y old new = FindsNoFile f by level x y old new
  LevelTells (Err LogFull) f by level x y old new = IsFull x y old new
  LevelTells (Err NoMemory) f by level x y old new = LacksMemory x y old new
