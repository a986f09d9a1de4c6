-- What an operation of an actor leaves of the files and of the board.
use Rattle.std.specs.Prelude.{◌≡◌, ℕ, ◌+◌, ◌<◌, ◌≤◌, List, [], ◌∷◌, ◌++◌, length, Option, Some, slice_get, slice_set, Result, Ok, Err, ⊤}
use Rattle.board.specs.History.{log_of}
use Rattle.board_history.specs.Board.{IsBoardStep, IsWithin}
use Rattle.board_history.specs.declared.entry.Effect.{Effect}
use Rattle.board_history.specs.declared.entry.Order.{Order}
use Rattle.board_history.specs.declared.entry.Order.TheVariants as order
use Rattle.domains.specs.Drive.{Drive}
use Rattle.domains.specs.Shape.{Shape}
use Rattle.domains.specs.declared.by.By.{By}
use Rattle.fabric.specs.Accounts.{Stays}
use Rattle.fabric.specs.Cells.{FabricView}
use Rattle.fabric.specs.Views.{number_of}
use Rattle.fabric.specs.declared.hand.Hand.{Hand}
use Rattle.flex_io.specs.declared.raw_place.RawPlace.{RawPlace}
use Rattle.file_cells.specs.OpenFiles.{IsOpen, state_of}
use Rattle.file_cells.specs.declared.open_file.OpenFile.{OpenFile}
use Rattle.file_core.specs.FileView.{FileView, IsFile}
use Rattle.file_turns.specs.FileTurns.{terms_of}
use Rattle.operation_text.specs.declared.named_op.DriveOrder.{DriveOrder}
use Rattle.operation_text.specs.declared.named_op.DriveOrder.TheVariants as drive_order
use Rattle.operation_text.specs.declared.named_op.FileAction.{FileAction}
use Rattle.operation_text.specs.declared.named_op.FileAction.TheVariants as action
use Rattle.whole_scenario.specs.declared.op.Op.{Op}
use Rattle.whole_scenario.specs.declared.op.Op.TheVariants as op
use Rattle.actor_operations.specs.Entries.{ActionTells, board_of}
use Rattle.actor_operations.specs.declared.stop.Stop.{Stop}
use Rattle.actor_operations.specs.declared.stop.Stop.TheVariants.{LogFull, NoMemory}

-- the action is one that is built: any but a write
abbrev pub IsBuiltAction : FileAction → Type 0
IsBuiltAction action.Create = Unit {0}
IsBuiltAction action.Delete = Unit {0}
IsBuiltAction (action.Write offset payload) = ⊥
IsBuiltAction (action.Read offset len) = Unit {0}
IsBuiltAction (action.SetLevel level) = Unit {0}

-- the order of this kind to the drive
abbrev pub order_to : DriveOrder → Drive → Order
order_to drive_order.Fail d = order.Fail d
order_to drive_order.Down d = order.Down d
order_to drive_order.Up d = order.Up d

-- the operation can be done: it is on one of so many files and no write, or an order within the cluster; none on jobs is built
abbrev pub IsPlayable : Shape → ℕ → Op → Type 0
IsPlayable shape files (op.OnFile file a) = (file < files) × IsBuiltAction a
IsPlayable shape files (op.OnDrive o drive) = IsWithin shape (order_to o drive)
IsPlayable shape files (op.FailNode node) = IsWithin shape (order.FailNode node) × (node ≤ 32)
IsPlayable shape files (op.Start kind job priority) = ⊥
IsPlayable shape files (op.OnJob o job) = ⊥
IsPlayable shape files (op.Work steps) = ⊥
IsPlayable shape files op.Drain = ⊥
IsPlayable shape files op.RestartEngine = ⊥

module _ {S : Type 0} where
  -- the board has this order more, with what it did, and the hand holds what it held
  pub record DoesOrder (f : FabricView) (order : Order) (by : By) (old new : Hand S) : Type 0 where
    pub turn : ℕ
    pub effect : Effect
    pub notes : (board_of new).notes
        ≡ (board_of old).notes ++ record { turn = turn; seat = number_of old; entry = record { by = by; order = order; effect = effect } } ∷ []
    pub room : (board_of new).room ≡ (board_of old).room
    pub legal : IsBoardStep (board_of old).shape (log_of (board_of old)) (record { by = by; order = order; effect = effect })
    pub held : Stays f.shape old new

  -- the board's log has no room for an entry more, and the board and what the hand holds are as they were
  pub record FindsFullBoard (f : FabricView) (old new : Hand S) : Type 0 where
    pub full : (board_of old).room < length (board_of old).notes + 1
    pub notes : (board_of new).notes ≡ (board_of old).notes
    pub room : (board_of new).room ≡ (board_of old).room
    pub held : Stays f.shape old new

  -- what an order leaves of the board and of the hand. Where memory runs out nothing is told
  abbrev pub BoardTells : {T : Type 0} → Result T Stop → FabricView → Order → By → Hand S → Hand S → Type 0
  BoardTells (Ok done) f order by old new = DoesOrder f order by old new
  BoardTells (Err LogFull) f order by old new = FindsFullBoard f old new
  BoardTells (Err NoMemory) f order by old new = ⊤

  -- the file is open, of a cluster of this shape
  pub record IsOpenIn (shape : Shape) (f : OpenFile S) : Type 0 where
    pub open_ : IsOpen f
    pub shape_is : (state_of f).shape ≡ shape

module _ {S : Type 0} (place_of : S → RawPlace) (content : S → Option (List ℕ)) (len_of : S → ℕ) where
  -- one file is changed, and is open still
  pub record ChangesOne (file : ℕ) (what : FileView S → FileView S → Type 0) (before after : List (OpenFile S)) : Type 0 where
    pub was : OpenFile S
    pub is : OpenFile S
    pub there : slice_get before file ≡ Some was
    pub changed : after ≡ slice_set before file is
    pub open_ : IsOpen is
    pub terms : terms_of (state_of is) ≡ terms_of (state_of was)
    pub file_is : IsFile place_of content len_of (state_of is)
    pub did : what (state_of was) (state_of is)

  -- what an operation leaves of the files and of the hand
  abbrev pub OperationTells : {T : Type 0} → Result T Stop → FabricView → Op → By → List (OpenFile S) → List (OpenFile S) → Hand S → Hand S → Type 0
  OperationTells result f (op.OnFile file a) by before after old new = ChangesOne file (λ x y. ActionTells result f a by 0 x y old new) before after
  OperationTells result f (op.OnDrive o drive) by before after old new = (after ≡ before) × BoardTells result f (order_to o drive) by old new
  OperationTells result f (op.FailNode node) by before after old new = (after ≡ before) × BoardTells result f (order.FailNode node) by old new
  OperationTells result f (op.Start kind job priority) by before after old new = ⊥
  OperationTells result f (op.OnJob o job) by before after old new = ⊥
  OperationTells result f (op.Work steps) by before after old new = ⊥
  OperationTells result f op.Drain by before after old new = ⊥
  OperationTells result f op.RestartEngine by before after old new = ⊥
