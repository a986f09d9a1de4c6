-- A new fabric, and its hands.
use Rattle.std.specs.Prelude.{◌≡◌, ℕ, suc, ◌+◌, ◌*◌, ◌<◌, ◌≤◌, true, List, [], ◌∷◌, ◌++◌, length, replicate, reverse, Some, slice_get, vec_capacity}
use Rattle.board.specs.History.{History}
use Rattle.domains.specs.Shape.{Shape, is_of}
use Rattle.domains.specs.Drive.{Drive}
use Rattle.flex_io.specs.declared.raw_place.RawPlace.{RawPlace}
use Rattle.slot_pool.specs.Pools.{AreSlotsOf, PoolView}
use Rattle.slot_pool.specs.Tallies.{no_tally}
use Rattle.slot_yard.specs.Yards.{IsNewYard}
use Rattle.turn_cell.specs.declared.seat.Seat.{Seat}
use Rattle.turn_cell.specs.Seats.{AreNewSeats, CellView, SeatView, seat_view}
use Rattle.fabric.specs.Accounts.{Holds}
use Rattle.fabric.specs.Cells.{AreCells, cells_view, place_in}
use Rattle.fabric.specs.ClosedFabric.{AreHandsOf}
use Rattle.fabric.specs.Views.{seat_on}
use Rattle.fabric.specs.declared.cells.Cells.{Cells}
use Rattle.fabric.specs.declared.hand.Hand.{Hand}

-- a board of no turn with no entry, whose log has at most `room`
pub record IsNewBoard (shape : Shape) (room : ℕ) (b : History) : Type 0 where
  pub shape_is : b.shape ≡ shape
  pub room_is : b.room ≡ room
  pub turns : b.turns ≡ 0
  pub seat : b.seat ≡ 0
  pub notes : b.notes ≡ []

module _ {S : Type 0} where
  -- a pool of no turn with these slots of the drive, all free and the first on top
  abbrev pub new_pool : Drive → List S → PoolView S
  new_pool d slots = record { drive = d; slots = length slots; free = reverse slots; tallies = replicate 32 no_tally; turns = 0; seat = 0 }

  -- how many slots are free in the pools
  abbrev pub free_in : List (PoolView S) → ℕ
  free_in [] = 0
  free_in (p ∷ pools) = length p.free + free_in pools

  -- the hand has taken the seat, behind all others
  pub record DealsSeat (seat : Seat (PoolView S)) (old new : Hand S) : Type 0 where
    pub board : new.board ≡ old.board
    pub yard : new.yard ≡ old.yard
    pub buffers : new.buffers ≡ old.buffers
    pub items : new.pools.items ≡ old.pools.items ++ seat ∷ []
    pub capacity : vec_capacity new.pools ≡ vec_capacity old.pools

module _ {S : Type 0} (place_of : S → RawPlace) where
  -- the hand's seat at the pool of the drive has made no turn, and knows a new pool of all slots of the drive
  pub record HasNewPool (shape : Shape) (hand : Hand S) (d : Drive) : Type 0 where
    pub seat : SeatView (PoolView S)
    pub seat_is : seat_on shape hand d ≡ Some seat
    pub slots : List S
    pub are : AreSlotsOf place_of d slots
    pub many : length slots ≡ shape.slots
    pub last : seat.last ≡ new_pool d slots

  -- the hand has made no turn, and holds no slot
  pub record IsNewHand (shape : Shape) (room : ℕ) (hand : Hand S) : Type 0 where
    pub board : IsNewBoard shape room (seat_view hand.board).last
    pub yard : IsNewYard shape (seat_view hand.yard).last
    pub pools : (d : Drive) → is_of shape d ≡ true → HasNewPool shape hand d
    pub holds : (d : Drive) → is_of shape d ≡ true → Holds shape d 0 hand

  -- the hand has made no turn at the yard, nor at the pools of the first drives
  pub record IsNewSoFar (shape : Shape) (many : ℕ) (hand : Hand S) : Type 0 where
    pub yard : IsNewYard shape (seat_view hand.yard).last
    pub pools : (d : Drive) → is_of shape d ≡ true → place_in shape d < many → HasNewPool shape hand d

  -- the pools of the first drives are open, the hands are all of these cells', and there is room for the other pools
  pub record IsOpening (c : Cells S) (hands : List (Hand S)) : Type 0 where
    pub cells : AreCells (cells_view c)
    pub are : AreHandsOf (cells_view c) hands
    pub new : (k : ℕ) (hand : Hand S) → slice_get hands k ≡ Some hand → IsNewSoFar c.shape (length c.pools.items) hand
    pub cells_room : c.shape.nodes * c.shape.drives ≤ vec_capacity c.pools
    pub seats_room : (k : ℕ) (hand : Hand S) → slice_get hands k ≡ Some hand → c.shape.nodes * c.shape.drives ≤ vec_capacity hand.pools
    pub closed_room : (hand : Hand S) → slice_get hands 0 ≡ Some hand → c.shape.nodes * c.shape.drives ≤ vec_capacity hand.buffers.closed
    pub buffers_room : (hand : Hand S) → slice_get hands 0 ≡ Some hand → c.shape.nodes * c.shape.drives ≤ vec_capacity hand.buffers.pools

  -- the cell is new, has a seat for each hand, and has a new pool of all slots of the drive
  pub record IsNewCell (shape : Shape) (hands : ℕ) (d : Drive) (cell : CellView) (seats : List (Seat (PoolView S))) : Type 0 where
    pub count : cell.seats ≡ hands
    pub slots : List S
    pub are : AreSlotsOf place_of d slots
    pub many : length slots ≡ shape.slots
    pub seats_are : AreNewSeats cell (new_pool d slots) seats

  -- a new pool of all slots of the drive
  pub record IsNewPool (shape : Shape) (d : Drive) (p : PoolView S) : Type 0 where
    pub slots : List S
    pub are : AreSlotsOf place_of d slots
    pub many : length slots ≡ shape.slots
    pub is : p ≡ new_pool d slots

  -- new pools of the drives from this place on: node by node, and within a node drive by drive
  abbrev pub AreNewPoolsFrom : Shape → ℕ → List (PoolView S) → Type 0
  AreNewPoolsFrom shape place [] = Unit {0}
  AreNewPoolsFrom shape place (p ∷ pools) = is_of shape p.drive ≡ true × (place_in shape p.drive ≡ place) × IsNewPool shape p.drive p × AreNewPoolsFrom shape (suc place) pools
