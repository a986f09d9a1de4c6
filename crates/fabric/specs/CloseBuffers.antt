-- The buffers for what a close collects.
use Rattle.std.specs.Global.{Vec}
use Rattle.std.specs.Prelude.{◌≡◌, ℕ, ◌<◌, ◌≤◌, List, [], ◌∷◌, ◌++◌, length, Some, slice_get, vec_capacity}
use Rattle.board.specs.History.{History}
use Rattle.slot_pool.specs.Pools.{PoolView}
use Rattle.slot_yard.specs.Yards.{YardView}
use Rattle.turn_cell.specs.declared.seat.Seat.{Seat}
use Rattle.fabric.specs.declared.close_buffers.CloseBuffers.{CloseBuffers}

-- what stands at each place has changed so by what stands there in another list
pub record ChangeEach {A B : Type 0} (how : A → B → B → Type 0) (others : List A) (old new : List B) : Type 0 where
  pub many : length new ≡ length old
  pub each : (k : ℕ) (a : A) (o n : B) → slice_get others k ≡ Some a → slice_get old k ≡ Some o → slice_get new k ≡ Some n → how a o n

module _ {S : Type 0} where
  -- there is room for the seats of n hands at the board, the yard and the pools of n drives, and for as many closed pools
  pub record HasSpace (hands drives : ℕ) (buffers : CloseBuffers S) : Type 0 where
    pub board : hands ≤ vec_capacity buffers.board
    pub yard : hands ≤ vec_capacity buffers.yard
    pub many : length buffers.pools.items ≡ drives
    pub closed : drives ≤ vec_capacity buffers.closed
    pub pools : (k : ℕ) (room : Vec (Seat (PoolView S))) → slice_get buffers.pools.items k ≡ Some room → hands ≤ vec_capacity room

  -- there is such room, and no seat has come back
  pub record HasBuffers (hands drives : ℕ) (buffers : CloseBuffers S) : Type 0 where
    pub no_board : buffers.board.items ≡ []
    pub no_yard : buffers.yard.items ≡ []
    pub no_pools : (k : ℕ) (room : Vec (Seat (PoolView S))) → slice_get buffers.pools.items k ≡ Some room → room.items ≡ []
    pub no_closed : buffers.closed.items ≡ []
    pub space : HasSpace hands drives buffers

  -- there is room for one seat more of each cell
  pub record HasSpare (buffers : CloseBuffers S) : Type 0 where
    pub board : length buffers.board.items < vec_capacity buffers.board
    pub yard : length buffers.yard.items < vec_capacity buffers.yard
    pub pools : (k : ℕ) (room : Vec (Seat (PoolView S))) → slice_get buffers.pools.items k ≡ Some room → length room.items < vec_capacity room

  -- the room has taken the seat, behind all others
  pub record TakesSeat (seat : Seat (PoolView S)) (old new : Vec (Seat (PoolView S))) : Type 0 where
    pub items : new.items ≡ old.items ++ seat ∷ []
    pub capacity : vec_capacity new ≡ vec_capacity old

  -- the seats of a hand came into the buffers, behind all others
  pub record TakesIn (board : Seat History) (yard : Seat (YardView S)) (pools : List (Seat (PoolView S))) (old new : CloseBuffers S) : Type 0 where
    pub board_items : new.board.items ≡ old.board.items ++ board ∷ []
    pub board_capacity : vec_capacity new.board ≡ vec_capacity old.board
    pub yard_items : new.yard.items ≡ old.yard.items ++ yard ∷ []
    pub yard_capacity : vec_capacity new.yard ≡ vec_capacity old.yard
    pub closed : new.closed ≡ old.closed
    pub pools_take : ChangeEach TakesSeat pools old.pools.items new.pools.items

  -- the new buffers are the old ones, without the seats at the board and at the yard
  pub record AreEmptied (old new : CloseBuffers S) : Type 0 where
    pub no_board : new.board.items ≡ []
    pub board : vec_capacity new.board ≡ vec_capacity old.board
    pub no_yard : new.yard.items ≡ []
    pub yard : vec_capacity new.yard ≡ vec_capacity old.yard
    pub pools : new.pools ≡ old.pools
    pub closed : new.closed ≡ old.closed
