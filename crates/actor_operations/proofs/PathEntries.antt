-- What each path tells of the entry of its action.
use Rattle.std.proofs.Common.{◌≡◌, ℕ, ◌++◌, List, [], Option, Some, None, Result, Ok, Err, refl}
use Rattle.board.specs.declared.board_view.View.{View}
use Rattle.domains.specs.Level.{Level}
use Rattle.domains.specs.declared.by.By.{By}
use Rattle.flex_io.specs.declared.raw_place.RawPlace.{RawPlace}
use Rattle.fabric.specs.Cells.{FabricView}
use Rattle.fabric.specs.declared.hand.Hand.{Hand}
use Rattle.file_core.specs.Creation.{inode_group}
use Rattle.file_core.specs.FileView.{FileView, layout_of}
use Rattle.file_core.specs.Notes.{noted}
use Rattle.file_history.specs.declared.entry.FileEvent.TheVariants as event
use Rattle.file_history.specs.declared.entry.Refused.{Refused as Refusal}
use Rattle.file_history.specs.declared.entry.Refused.TheVariants as refused
use Rattle.file_turns.specs.FileTurns.{FileTurn}
use Rattle.file_turns.specs.PathAccounts.{KeepsAccount}
use Rattle.file_turns.specs.Paths.{IsRefused}
use Rattle.file_turns.proofs.FileTurnLemmas.{NotesOne, notes_one}
use Rattle.operation_text.specs.declared.named_op.FileAction.TheVariants as action
use Rattle.slot_search.specs.HandSeats.{drives_at}
use Rattle.striped_groups.specs.StoredGroups.{list_of}
use Rattle.turn_cell.specs.Seats.{SeatView}
use Rattle.level_path.specs.Levels.{LevelTells}
use Rattle.level_path.specs.declared.level_setting.LevelRefusal.{LevelRefusal}
use Rattle.level_path.specs.declared.level_setting.LevelRefusal.TheVariants as level
use Rattle.level_path.proofs.LevelLemmas.{absent_one, set_one}
use Rattle.read_path.specs.Reads.{ReadTells}
use Rattle.read_path.specs.declared.reading.ReadRefusal.{ReadRefusal}
use Rattle.read_path.specs.declared.reading.ReadRefusal.TheVariants as read
use Rattle.write_path.specs.Creations.{CreateTells, UnlessOutOfMemory}
use Rattle.write_path.specs.Releases.{slots_in}
use Rattle.write_path.specs.Removals.{RemoveTells, UnlessNoMemory}
use Rattle.write_path.specs.declared.creation.CreateRefusal.{CreateRefusal}
use Rattle.write_path.specs.declared.creation.CreateRefusal.TheVariants as create
use Rattle.write_path.specs.declared.removal.RemoveRefusal.{RemoveRefusal}
use Rattle.write_path.specs.declared.removal.RemoveRefusal.TheVariants as remove
use Rattle.actor_operations.specs.Entries.{ActionTells}
use Rattle.actor_operations.specs.Stops.{after_create, after_level, after_read, after_removal}
use Rattle.actor_operations.proofs.BoardKept.{board_released}
use Rattle.actor_operations.proofs.TurnEntries.{does, full}

-- a noted refusal is one note
refused_one : {S : Type 0} (by : By) (view : View) (why : Refusal) (x y : FileView S) → IsRefused by view why x y → NotesOne (noted by view (event.Refused why) []) x y
refused_one by view why x y is = notes_one (noted by view (event.Refused why) []) is.spare x.groups x.inode x y is.noted

module _ {S : Type 0} (place_of : S → RawPlace) (content : S → Option (List ℕ)) (len_of faults reads : S → ℕ) (f : FabricView) (by : By) (before after : SeatView (FileView S))
    (alone : before.cell.seats ≡ 1) (old new : Hand S) (one : f.board.seats ≡ 1) where
  -- the account of the seat at the file is as it was
  abbrev Keeps : Type 0
  Keeps = KeepsAccount f.shape before.number before.last after.last old new

  -- the file as the turn found it
  abbrev found : (what : FileView S → FileView S → Type 0) → FileTurn what before after → FileView S
  found what turn = record turn.found { seat = before.number }

  pub create_entry : {T : Type 0} (answer : Result T CreateRefusal) → (turn : FileTurn (λ x y. CreateTells place_of content len_of faults answer f by x y old new) before after)
      → UnlessOutOfMemory answer Keeps → ActionTells (after_create answer) f action.Create by before.number before.last after.last old new
  create_entry (Ok done) turn keeps =
      let did = turn.did in
      does f _ before after turn alone one old new action.Create by (event.Created (inode_group place_of (layout_of turn.found) did.inode.slots)) _ did.view did.looked did.may.begins.sees
      (notes_one (noted by did.view (event.Created (inode_group place_of (layout_of turn.found) did.inode.slots)) []) did.inode.spare turn.found.groups
      (Some (record { group = inode_group place_of (layout_of turn.found) did.inode.slots; slots = did.inode.slots })) (found _ turn) turn.done did.inode.created) refl refl did.inode.board keeps
  create_entry (Err create.Exists) turn keeps =
      let did = turn.did in
      does f _ before after turn alone one old new action.Create by (event.Refused refused.CreateExists) _ did.view new did.begins.sees
      (refused_one by did.view refused.CreateExists (found _ turn) turn.done did.refused) refl refl refl keeps
  create_entry (Err (create.TooFew fault)) turn keeps =
      let did = turn.did in
      does f _ before after turn alone one old new action.Create by (event.Refused (refused.CreateTooFew fault)) _ did.view new did.begins.sees
      (refused_one by did.view (refused.CreateTooFew fault) (found _ turn) turn.done did.refused) refl refl refl keeps
  create_entry (Err (create.NoRoom told)) turn keeps =
      let did = turn.did in
      let why = refused.CreateNoRoom told.need told.got (drives_at told.empty) in
      does f _ before after turn alone one old new action.Create by (event.Refused why) _ did.view did.looked did.may.begins.sees
      (refused_one by did.view why (found _ turn) turn.done did.none.refused) refl refl did.none.board keeps
  create_entry (Err create.LogFull) turn keeps = full f _ before after turn alone one old new turn.did
  create_entry (Err create.NoMemory) turn keeps = tt

  pub removal_entry : {T : Type 0} (answer : Result T RemoveRefusal) → (turn : FileTurn (λ x y. RemoveTells place_of answer f by x y old new) before after)
      → UnlessNoMemory answer Keeps → ActionTells (after_removal answer) f action.Delete by before.number before.last after.last old new
  removal_entry (Ok done) turn keeps =
      let did = turn.did in
      does f _ before after turn alone one old new action.Delete by event.Deleted _ did.view did.looked did.deletes.begins.sees
      (notes_one (noted by did.view event.Deleted []) did.deletes.spare [] None (found _ turn) turn.done did.deletes.noted) refl refl
      (board_released place_of f.shape did.view (slots_in (turn.found.groups ++ list_of turn.found.inode)) did.looked new did.released) keeps
  removal_entry (Err remove.Absent) turn keeps =
      let did = turn.did in
      does f _ before after turn alone one old new action.Delete by (event.Refused refused.DeleteAbsent) _ did.view new did.begins.sees
      (refused_one by did.view refused.DeleteAbsent (found _ turn) turn.done did.refused) refl refl refl keeps
  removal_entry (Err remove.LogFull) turn keeps = full f _ before after turn alone one old new turn.did
  removal_entry (Err remove.NoMemory) turn keeps = tt

  pub read_entry : (offset len : ℕ) (answer : Result (List ℕ) ReadRefusal) → (turn : FileTurn (λ x y. ReadTells place_of content len_of reads answer f by offset len x y old new) before after)
      → Keeps → ActionTells (after_read answer) f (action.Read offset len) by before.number before.last after.last old new
  read_entry offset len (Ok bytes) turn keeps =
      let did = turn.did in
      does f _ before after turn alone one old new (action.Read offset len) by (event.Shown offset len bytes) _ did.view new did.begins.sees
      (notes_one (noted by did.view (event.Shown offset len bytes) []) did.did.spare turn.done.groups turn.done.inode (found _ turn) turn.done did.did.noted) refl refl refl keeps
  read_entry offset len (Err read.Absent) turn keeps =
      let did = turn.did in
      does f _ before after turn alone one old new (action.Read offset len) by (event.Refused (refused.ReadAbsent offset len)) _ did.view new did.begins.sees
      (refused_one by did.view (refused.ReadAbsent offset len) (found _ turn) turn.done did.did.refused) refl refl refl keeps
  read_entry offset len (Err (read.Lost loss)) turn keeps =
      let did = turn.did in
      does f _ before after turn alone one old new (action.Read offset len) by (event.Refused (refused.ReadLost offset len loss)) _ did.view new did.begins.sees
      (refused_one by did.view (refused.ReadLost offset len loss) (found _ turn) turn.done did.did.refused) refl refl refl keeps
  read_entry offset len (Err read.LogFull) turn keeps = full f _ before after turn alone one old new turn.did
  read_entry offset len (Err read.NoMemory) turn keeps = tt

  pub level_entry : (to : Level) {T : Type 0} (answer : Result T LevelRefusal) → (turn : FileTurn (λ x y. LevelTells answer f by to x y old new) before after)
      → Keeps → ActionTells (after_level answer) f (action.SetLevel to) by before.number before.last after.last old new
  level_entry to (Ok done) turn keeps =
      let did = turn.did in
      does f _ before after turn alone one old new (action.SetLevel to) by (event.LevelSet to) _ did.view new did.begins.sees
      (set_one f by to (found _ turn) turn.done old new did) refl refl refl keeps
  level_entry to (Err level.Absent) turn keeps =
      let did = turn.did in
      does f _ before after turn alone one old new (action.SetLevel to) by (event.Refused (refused.LevelAbsent to)) _ did.view new did.begins.sees
      (absent_one f by to (found _ turn) turn.done old new did) refl refl refl keeps
  level_entry to (Err level.LogFull) turn keeps = full f _ before after turn alone one old new turn.did
  level_entry to (Err level.NoMemory) turn keeps = tt
