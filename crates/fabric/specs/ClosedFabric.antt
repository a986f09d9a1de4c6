-- All hands of a fabric, and what its close tells.
use Rattle.std.specs.Global.{Vec}
use Rattle.std.specs.Prelude.{◌≡◌, ℕ, suc, ◌+◌, ◌*◌, ◌%◌, ◌^◌, ◌<◌, ◌≤◌, true, List, [], ◌∷◌, map, length, Some, slice_get, vec_capacity}
use Rattle.std.specs.List.{sum}
use Rattle.board.specs.History.{History}
use Rattle.board_history.specs.declared.entry.BoardEntry.{BoardEntry}
use Rattle.domains.specs.Shape.{Shape, is_of}
use Rattle.domains.specs.Drive.{Drive}
use Rattle.flex_io.specs.declared.raw_place.RawPlace.{RawPlace}
use Rattle.slot_pool.specs.declared.chronicle.DriveSlots.{DriveSlots}
use Rattle.slot_pool.specs.Pools.{IsPool, PoolView}
use Rattle.slot_pool.specs.Tallies.{numbers_of, tally_at}
use Rattle.held_slots.specs.Slots.{count_on}
use Rattle.slot_yard.specs.Queues.{by_drive}
use Rattle.slot_yard.specs.Tallies.{numbers_of as yard_numbers_of, tally_at as yard_tally_at}
use Rattle.slot_yard.specs.Yards.{IsYard, YardView}
use Rattle.turn_cell.specs.declared.seat.Seat.{Seat}
use Rattle.turn_cell.specs.Seats.{Closes}
use Rattle.fabric.specs.Accounts.{Holds}
use Rattle.fabric.specs.Cells.{FabricView, place_in}
use Rattle.fabric.specs.CloseBuffers.{HasBuffers}
use Rattle.fabric.specs.Views.{IsHandOf, number_of}
use Rattle.fabric.specs.declared.hand.Hand.{Hand}
use Rattle.fabric.specs.declared.close_buffers.CloseBuffers.{CloseBuffers}

-- the board is what the closed cell of these seats held
abbrev pub ClosesBoard : List (Seat History) → History → Type 0
ClosesBoard seats b =
    Closes {E = BoardEntry} {F = Shape × ℕ} (λ (b : History). b.turns) (λ (b : History). b.notes) (λ (b : History) (number : ℕ). []) (λ (b : History). (b.shape, b.room)) seats b

module _ {S : Type 0} where
  -- hands numbered from here on, each one of the fabric's
  abbrev pub AreHandsFrom : FabricView → ℕ → List (Hand S) → Type 0
  AreHandsFrom f number [] = Unit {0}
  AreHandsFrom f number (hand ∷ hands) = IsHandOf f hand × (number_of hand ≡ number) × AreHandsFrom f (suc number) hands

  -- all hands of the fabric, in the order of their numbers
  abbrev pub AreHandsOf : FabricView → List (Hand S) → Type 0
  AreHandsOf f hands = (length hands ≡ f.hands) × AreHandsFrom f 0 hands

  -- the seats that the hands have at the pool of this place, in the order of the hands
  abbrev pub AreSeatsAt : ℕ → List (Hand S) → List (Seat (PoolView S)) → Type 0
  AreSeatsAt place [] [] = Unit {0}
  AreSeatsAt place [] (seat ∷ seats) = ⊥
  AreSeatsAt place (hand ∷ hands) [] = ⊥
  AreSeatsAt place (hand ∷ hands) (seat ∷ seats) = (slice_get hand.pools.items place ≡ Some seat) × AreSeatsAt place hands seats

  -- the first of the hands has the room for the seats of all, and each hand has a seat for each of its pools
  pub record CanGather (hands : List (Hand S)) : Type 0 where
    pub first : Hand S
    pub rest : List (Hand S)
    pub split : hands ≡ first ∷ rest
    pub buffers : HasBuffers (length hands) (length first.buffers.pools.items) first.buffers
    pub many : (k : ℕ) (hand : Hand S) → slice_get hands k ≡ Some hand → length hand.pools.items ≡ length first.buffers.pools.items

  -- the buffers have the seats of these hands, each cell's in the order of the hands
  pub record AreIn (hands : List (Hand S)) (buffers : CloseBuffers S) : Type 0 where
    pub board : buffers.board.items ≡ map (λ hand. hand.board) hands
    pub yard : buffers.yard.items ≡ map (λ hand. hand.yard) hands
    pub no_closed : buffers.closed.items ≡ []
    pub closed : length buffers.pools.items ≤ vec_capacity buffers.closed
    pub many : (k : ℕ) (hand : Hand S) → slice_get hands k ≡ Some hand → length buffers.pools.items ≡ length hand.pools.items
    pub pools : (k : ℕ) (room : Vec (Seat (PoolView S))) → slice_get buffers.pools.items k ≡ Some room → AreSeatsAt k hands room.items

  -- each hand holds its number of slots of the drive
  abbrev pub AreHolding : Shape → Drive → List (Hand S) → List ℕ → Type 0
  AreHolding shape d [] [] = Unit {0}
  AreHolding shape d [] (many ∷ held) = ⊥
  AreHolding shape d (hand ∷ hands) [] = ⊥
  AreHolding shape d (hand ∷ hands) (many ∷ held) = Holds shape d many hand × AreHolding shape d hands held

  -- the yard is what the closed cell of these seats held
  abbrev pub ClosesYard : List (Seat (YardView S)) → YardView S → Type 0
  ClosesYard seats y =
      Closes {E = Unit {0}} {F = Shape} (λ (y : YardView S). y.turns) (λ (y : YardView S). []) (λ (y : YardView S) (number : ℕ). yard_numbers_of (yard_tally_at y.tallies number)) (λ (y : YardView S). y.shape) seats y

  -- the pool is what the closed cell of these seats held
  abbrev pub ClosesPool : List (Seat (PoolView S)) → PoolView S → Type 0
  ClosesPool seats p =
      Closes {E = Unit {0}} {F = DriveSlots} (λ (p : PoolView S). p.turns) (λ (p : PoolView S). []) (λ (p : PoolView S) (number : ℕ). numbers_of (tally_at p.tallies number)) (λ (p : PoolView S). record { drive = p.drive; slots = p.slots }) seats p

module _ {S : Type 0} (place_of : S → RawPlace) where
  -- the two lists are what the closed yard of the hands held
  pub record AreYardOf (shape : Shape) (hands : List (Hand S)) (waiting retired : List S) : Type 0 where
    pub yard : YardView S
    pub is : IsYard place_of yard
    pub shape_is : yard.shape ≡ shape
    pub closes : ClosesYard (map (λ hand. hand.yard) hands) yard
    pub waiting_are : waiting ≡ by_drive yard.waiting
    pub retired_are : retired ≡ yard.retired

  -- the pool is what the closed cell of this place held, of which each hand had a seat
  pub record IsClosedAt (place : ℕ) (hands : List (Hand S)) (p : PoolView S) : Type 0 where
    pub pool : IsPool place_of p
    pub seats : List (Seat (PoolView S))
    pub seats_are : AreSeatsAt place hands seats
    pub closes : ClosesPool seats p

  -- the pool is that of the drive, which the close of the hands' seats there gave
  pub record IsPoolOf (shape : Shape) (hands : List (Hand S)) (d : Drive) (p : PoolView S) : Type 0 where
    pub drive : p.drive ≡ d
    pub slots : p.slots ≡ shape.slots
    pub closed : IsClosedAt (place_in shape d) hands p

  -- each drive has its pool: node by node, and within a node drive by drive
  pub record ArePoolsOf (shape : Shape) (hands : List (Hand S)) (pools : List (PoolView S)) : Type 0 where
    pub many : length pools ≡ shape.nodes * shape.drives
    pub each : (d : Drive) (p : PoolView S) → is_of shape d ≡ true → slice_get pools (place_in shape d) ≡ Some p → IsPoolOf shape hands d p

  -- the drive's slots: those that are free, those in the yard, the retired ones, and those that the hands hold
  abbrev pub all_slots : Drive → PoolView S → List S → List S → ℕ → ℕ
  all_slots d p yard retired held = length p.free + (count_on place_of d yard + (count_on place_of d retired + held))

  -- modulo 2^64 each drive has all its slots
  abbrev pub IsAccounted : Shape → List (Hand S) → List (PoolView S) → List S → List S → Type 0
  IsAccounted shape hands pools yard retired =
      (d : Drive) (p : PoolView S) (held : List ℕ) → is_of shape d ≡ true → slice_get pools (place_in shape d) ≡ Some p → AreHolding shape d hands held
      → all_slots d p yard retired (sum held) % 2 ^ 64 ≡ shape.slots % 2 ^ 64

  -- if together the hands hold n slots of a drive, fewer than 2^63, it has exactly all its slots. The sum of what each holds is n
  -- modulo 2^64 alone: a hand that released what another drew holds 2^64 - 1.
  abbrev pub IsExact : Shape → List (Hand S) → List (PoolView S) → List S → List S → Type 0
  IsExact shape hands pools yard retired =
      (d : Drive) (p : PoolView S) (held : List ℕ) (n : ℕ) → is_of shape d ≡ true → slice_get pools (place_in shape d) ≡ Some p → AreHolding shape d hands held
      → sum held % 2 ^ 64 ≡ n % 2 ^ 64 → n < 2 ^ 63 → all_slots d p yard retired n ≡ shape.slots
