-- The states of the drives after the entries of the board's log.
use Rattle.std.specs.Prelude.{◌≡◌, ℕ, zero, suc, ◌==◌, ◌≤◌, Bool, true, false, ◌&&◌, if◌then◌else◌, List, [], ◌∷◌, ◌++◌, take}
use Rattle.domains.specs.Drive.{Drive, same_drive}
use Rattle.domains.specs.Shape.{Shape, is_of}
use Rattle.board_history.specs.declared.entry.State.{State}
use Rattle.board_history.specs.declared.entry.State.TheVariants as state
use Rattle.board_history.specs.declared.entry.Order.{Order}
use Rattle.board_history.specs.declared.entry.Order.TheVariants as order
use Rattle.board_history.specs.declared.entry.Effect.{Effect}
use Rattle.board_history.specs.declared.entry.Effect.TheVariants as effect
use Rattle.board_history.specs.declared.entry.BoardEntry.{BoardEntry}

abbrev pub is_up : State → Bool
is_up state.Up = true
is_up state.Down = false
is_up state.Gone = false

abbrev pub is_gone : State → Bool
is_gone state.Up = false
is_gone state.Down = false
is_gone state.Gone = true

-- a drive that is up goes down
abbrev pub lowered : State → State
lowered state.Up = state.Down
lowered state.Down = state.Down
lowered state.Gone = state.Gone

-- a drive that is down comes up
abbrev pub raised : State → State
raised state.Up = state.Up
raised state.Down = state.Up
raised state.Gone = state.Gone

-- the state of the drive after an order, which was this before
abbrev pub after_order : Order → Drive → State → State
after_order (order.Fail e) d was = if same_drive e d then state.Gone else was
after_order (order.FailNode n) d was = if n == d.node then state.Gone else was
after_order (order.Down e) d was = if same_drive e d then lowered was else was
after_order (order.Up e) d was = if same_drive e d then raised was else was

-- the state of the drive after these entries, which was this before them
abbrev pub state_from : List BoardEntry → Drive → State → State
state_from [] d was = was
state_from (e ∷ es) d was = state_from es d (after_order e.order d was)

-- the state of the drive after all entries of the log; all drives start up
abbrev pub state_after : List BoardEntry → Drive → State
state_after log d = state_from log d state.Up

-- the drive is one of the cluster that is up at the epoch: after that many entries
abbrev pub up_after : Shape → List BoardEntry → ℕ → Drive → Bool
up_after shape log epoch d = is_of shape d && is_up (state_after (take epoch log) d)

-- the drive is one of the cluster that is gone at the epoch: after that many entries
abbrev pub gone_after : Shape → List BoardEntry → ℕ → Drive → Bool
gone_after shape log epoch d = is_of shape d && is_gone (state_after (take epoch log) d)

-- what an order tells that finds one state and leaves another
abbrev pub change_of : State → State → Effect
change_of state.Up state.Up = effect.NoChange state.Up
change_of state.Down state.Down = effect.NoChange state.Down
change_of state.Gone state.Gone = effect.NoChange state.Gone
change_of state.Up state.Down = effect.Changed
change_of state.Up state.Gone = effect.Changed
change_of state.Down state.Up = effect.Changed
change_of state.Down state.Gone = effect.Changed
change_of state.Gone state.Up = effect.Changed
change_of state.Gone state.Down = effect.Changed

-- the node's drives up to this number are all gone
abbrev pub all_gone : ℕ → ℕ → List BoardEntry → Bool
all_gone zero node log = true
all_gone (suc d) node log = is_gone (state_after log (record { node = node; drive = suc d })) && all_gone d node log

-- what an order after this log does: it changes some state, or it leaves the state that the drive has
abbrev pub effect_of : Shape → List BoardEntry → Order → Effect
effect_of shape log (order.Fail d) = change_of (state_after log d) (after_order (order.Fail d) d (state_after log d))
effect_of shape log (order.Down d) = change_of (state_after log d) (after_order (order.Down d) d (state_after log d))
effect_of shape log (order.Up d) = change_of (state_after log d) (after_order (order.Up d) d (state_after log d))
effect_of shape log (order.FailNode n) = if all_gone shape.drives n log then effect.NoChange state.Gone else effect.Changed

-- the order is given to a drive or a node of the cluster
abbrev pub IsWithin : Shape → Order → Type 0
IsWithin shape (order.Fail d) = is_of shape d ≡ true
IsWithin shape (order.Down d) = is_of shape d ≡ true
IsWithin shape (order.Up d) = is_of shape d ≡ true
IsWithin shape (order.FailNode n) = (1 ≤ n) × (n ≤ shape.nodes)

-- the entry is legal after the log: its order is within the cluster, and its effect is what the order does
pub record IsBoardStep (shape : Shape) (log : List BoardEntry) (entry : BoardEntry) : Type 0 where
  pub within : IsWithin shape entry.order
  pub effect : entry.effect ≡ effect_of shape log entry.order

-- each of these entries is legal after those before it
abbrev pub AreBoardSteps : Shape → List BoardEntry → List BoardEntry → Type 0
AreBoardSteps shape before [] = Unit {0}
AreBoardSteps shape before (e ∷ es) = IsBoardStep shape before e × AreBoardSteps shape (before ++ e ∷ []) es

-- each entry of the log is legal
abbrev pub IsLegalBoardLog : Shape → List BoardEntry → Type 0
IsLegalBoardLog shape log = AreBoardSteps shape [] log
