-- The entry that an action on a file has, and what else the action changes.
use Rattle.std.specs.Prelude.{◌≡◌, ℕ, ◌+◌, ◌<◌, [], ◌∷◌, ◌++◌, length, Result, Ok, Err, ⊤}
use Rattle.board.specs.History.{History, log_of}
use Rattle.board.specs.Views.{IsViewOf}
use Rattle.board.specs.declared.board_view.View.{View}
use Rattle.domains.specs.declared.by.By.{By}
use Rattle.fabric.specs.Cells.{FabricView}
use Rattle.fabric.specs.declared.hand.Hand.{Hand}
use Rattle.file_core.specs.FileView.{FileView}
use Rattle.file_core.specs.Notes.{kept_view}
use Rattle.file_core.specs.declared.noted.Noted.{Noted}
use Rattle.file_turns.specs.PathAccounts.{KeepsAccount}
use Rattle.file_turns.specs.PathRoom.{entries_of_path}
use Rattle.legal_runs.specs.Operations.{AnswersAction, payload_of_action}
use Rattle.operation_text.specs.declared.named_op.FileAction.{FileAction}
use Rattle.turn_cell.specs.Seats.{seat_view}
use Rattle.actor_operations.specs.declared.stop.Stop.{Stop}
use Rattle.actor_operations.specs.declared.stop.Stop.TheVariants.{LogFull, NoMemory}

-- the entry is the one of this action by this operation: it answers the action, at a view of all entries that the board has, and
-- brings the bytes that the action writes
pub record IsEntryOf (action : FileAction) (by : By) (board : History) (n : Noted) : Type 0 where
  pub view : View
  pub shows : IsViewOf board.shape (log_of board) view
  pub whole : view.epoch ≡ length board.notes
  pub kept : n.view ≡ kept_view view
  pub author : n.told.entry.by ≡ by
  pub epoch : n.told.entry.epoch ≡ length board.notes
  pub answers : AnswersAction action n.told.entry.event
  pub payload : n.told.payload ≡ payload_of_action action

module _ {S : Type 0} where
  -- the board as the hand's last turn there left it
  abbrev pub board_of : Hand S → History
  board_of hand = (seat_view hand.board).last

  -- the file has one note more, of this seat: the entry of the action
  pub record NotesEntry (action : FileAction) (by : By) (board : History) (seat : ℕ) (x y : FileView S) : Type 0 where
    pub turn : ℕ
    pub entry : Noted
    pub notes : y.notes ≡ x.notes ++ record { turn = turn; seat = seat; entry = entry } ∷ []
    pub is : IsEntryOf action by board entry

  -- the action has its entry; the board has no entry more, and the account of the hand with the file is as it was
  pub record DoesAction (f : FabricView) (action : FileAction) (by : By) (seat : ℕ) (x y : FileView S) (old new : Hand S) : Type 0 where
    pub entry : NotesEntry action by (board_of old) seat x y
    pub board : (board_of new).notes ≡ (board_of old).notes
    pub room : (board_of new).room ≡ (board_of old).room
    pub account : KeepsAccount f.shape seat x y old new

  -- the log has no room for what the action may note, and nothing is changed
  pub record FindsFullLog (x y : FileView S) (old new : Hand S) : Type 0 where
    pub full : x.room < length x.notes + entries_of_path x
    pub notes : y.notes ≡ x.notes
    pub groups : y.groups ≡ x.groups
    pub inode : y.inode ≡ x.inode
    pub hand : new ≡ old

  -- what an action on a file leaves of it and of the hand. Where memory runs out nothing is told
  abbrev pub ActionTells : {T : Type 0} → Result T Stop → FabricView → FileAction → By → ℕ → FileView S → FileView S → Hand S → Hand S → Type 0
  ActionTells (Ok done) f action by seat x y old new = DoesAction f action by seat x y old new
  ActionTells (Err LogFull) f action by seat x y old new = FindsFullLog x y old new
  ActionTells (Err NoMemory) f action by seat x y old new = ⊤
