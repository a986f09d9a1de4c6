-- The states of drives as two sets keep them.
use Rattle.std.specs.Prelude.{◌≡◌, ℕ, zero, suc, Bool, true, ◌&&◌, if◌then◌else◌, List}
use Rattle.domains.specs.Drive.{Drive, IsDrive}
use Rattle.domains.specs.Shape.{Shape, is_of}
use Rattle.domains.specs.DriveSet.{has}
use Rattle.domains.specs.declared.drive_set.DriveSet.{DriveSet}
use Rattle.board_history.specs.Board.{state_after, is_up, is_gone}
use Rattle.board_history.specs.declared.entry.State.{State}
use Rattle.board_history.specs.declared.entry.State.TheVariants as state
use Rattle.board_history.specs.declared.entry.BoardEntry.{BoardEntry}
use Rattle.board.specs.declared.drive_states.DriveStates.{DriveStates}

-- the state that the sets give the drive
abbrev pub state_in : DriveStates → Drive → State
state_in s d = if has s.gone d then state.Gone else (if has s.up d then state.Up else state.Down)

-- the set has the node's drives up to this number
abbrev pub all_in : ℕ → ℕ → DriveSet → Bool
all_in zero node set = true
all_in (suc d) node set = has set (record { node = node; drive = suc d }) && all_in d node set

-- the sets have the drives of the cluster that the log leaves up, and those that it leaves gone
pub record HasStates (shape : Shape) (log : List BoardEntry) (s : DriveStates) : Type 0 where
  pub up : (d : Drive) → IsDrive d → has s.up d ≡ is_of shape d && is_up (state_after log d)
  pub gone : (d : Drive) → IsDrive d → has s.gone d ≡ is_of shape d && is_gone (state_after log d)
