-- What a call asks for, and what the seats of a hand did at the pools of drives.
use Rattle.std.specs.Prelude.{◌≡◌, ℕ, ◌+◌, ◌⊎◌, true, false, ◌&&◌, List, map, Some}
use Rattle.std.specs.List.{All}
use Rattle.board.specs.declared.board_view.View.{View}
use Rattle.domains.specs.Shape.{Shape, is_of}
use Rattle.domains.specs.Drive.{Drive, is_in}
use Rattle.domains.specs.DriveSet.{has}
use Rattle.domains.specs.Level.{Level}
use Rattle.domains.specs.declared.drive_set.DriveSet.{DriveSet}
use Rattle.flex_io.specs.declared.raw_place.RawPlace.{RawPlace}
use Rattle.held_slots.specs.Slots.{count_on, drive_of, place_from}
use Rattle.slot_pool.specs.Pools.{PoolView}
use Rattle.domains.specs.Place.{IsPlaceOf}
use Rattle.turn_cell.specs.Seats.{SeatView, seat_view}
use Rattle.fabric.specs.Accounts.{Holds}
use Rattle.fabric.specs.PoolTurns.{FindsAll, FindsNone, Gives, Takes}
use Rattle.fabric.specs.Views.{seat_on}
use Rattle.fabric.specs.declared.hand.Hand.{Hand}
use Rattle.placement_order.specs.Order.{DrawRequest}
use Rattle.slot_search.specs.declared.empty_at.EmptyAt.{EmptyAt}

-- what a call asks for: the usable drives are those that are allowed and up in the view
abbrev pub draw_request : Level → Shape → View → DriveSet → DriveSet → ℕ → DrawRequest
draw_request level shape view allowed used spin = record {
  level = level;
  shape = shape;
  usable = λ d. has allowed d && has view.up d;
  used = has used;
  spin = spin;
}

-- the drives that were found empty
abbrev pub drives_at : List EmptyAt → List Drive
drives_at found = map (λ (e : EmptyAt). e.drive) found

module _ {S : Type 0} where
  -- the hand's seat at the pool of the drive did this
  pub record AtSeat (shape : Shape) (d : Drive) (what : SeatView (PoolView S) → SeatView (PoolView S) → Type 0) (old new : Hand S) : Type 0 where
    pub before : SeatView (PoolView S)
    pub after : SeatView (PoolView S)
    pub before_is : seat_on shape old d ≡ Some before
    pub after_is : seat_on shape new d ≡ Some after
    pub done : what before after

  -- the hand's seat at the pool of the drive made no turn, or did this
  abbrev pub AtMostOnce : Shape → Drive → (SeatView (PoolView S) → SeatView (PoolView S) → Type 0) → Hand S → Hand S → Type 0
  AtMostOnce shape d what old new = (seat_on shape new d ≡ seat_on shape old d) ⊎ AtSeat shape d what old new

module _ {S : Type 0} (place_of : S → RawPlace) where
  -- the drives of slots
  abbrev pub drives_of_all : List S → List Drive
  drives_of_all slots = map (drive_of place_of) slots

  -- the slots are of the cluster
  abbrev pub AreOfCluster : Shape → List S → Type 0
  AreOfCluster shape slots = All (λ held. IsPlaceOf shape (place_from (place_of held))) slots

  -- the hand's seats at these drives made one turn each, and found no free slot
  abbrev pub FoundEmpty : Shape → List EmptyAt → Hand S → Hand S → Type 0
  FoundEmpty shape found old new = All (λ (e : EmptyAt). AtSeat shape e.drive (FindsNone place_of e.turn) old new) found

  -- the seat made two turns: one took a slot, the other gave it back
  pub record TakesAndGives (taken given : S) (before after : SeatView (PoolView S)) : Type 0 where
    pub between : SeatView (PoolView S)
    pub takes : Takes place_of taken before between
    pub gives : Gives place_of given between after

  -- the hand's seat at its drive took the slot, and gave it back
  pub record WentBack (shape : Shape) (old new : Hand S) (held : S) : Type 0 where
    pub drawn : S
    pub place : place_of held ≡ place_of drawn
    pub turns : AtSeat shape (drive_of place_of held) (TakesAndGives drawn held) old new

  -- a turn of the seat took a slot, or found none
  abbrev pub Asks : SeatView (PoolView S) → SeatView (PoolView S) → Type 0
  Asks before after = ((held : S) × Takes place_of held before after) ⊎ ((turns : ℕ) × FindsNone place_of turns before after)

  -- a turn of the seat gave a slot back, or did not, since all slots of the drive were free
  abbrev pub Returns : SeatView (PoolView S) → SeatView (PoolView S) → Type 0
  Returns before after = ((held : S) × Gives place_of held before after) ⊎ FindsAll place_of before after

  -- each of the hand's seats at the pools returned at most one slot
  abbrev pub ReturnsOnce : Shape → Hand S → Hand S → Type 0
  ReturnsOnce shape old new = (d : Drive) → is_of shape d ≡ true → AtMostOnce shape d Returns old new

  -- each of the hand's seats at the pools asked for at most one slot, and after that returned at most one: so a call takes at most one slot of
  -- a pool, and makes at most two turns there
  pub record TriesOnce (shape : Shape) (old new : Hand S) : Type 0 where
    pub between : Hand S
    pub asked : (d : Drive) → is_of shape d ≡ true → AtMostOnce shape d Asks old between
    pub returned : ReturnsOnce shape between new

  -- the hand's seats took these slots, in one turn each, and found the drives empty, in one turn each; no other seat made a turn
  pub record Drew (shape : Shape) (slots : List S) (found : List EmptyAt) (old new : Hand S) : Type 0 where
    pub taken : All (λ held. AtSeat shape (drive_of place_of held) (Takes place_of held) old new) slots
    pub places : AreOfCluster shape slots
    pub empty : FoundEmpty shape found old new
    pub others : (e : Drive) → is_of shape e ≡ true → is_in (drives_of_all slots) e ≡ false → is_in (drives_at found) e ≡ false
        → seat_on shape new e ≡ seat_on shape old e
    pub yard : seat_view new.yard ≡ seat_view old.yard
    pub account : (e : Drive) (many : ℕ) → is_of shape e ≡ true → Holds shape e many old → Holds shape e (many + count_on place_of e slots) new
