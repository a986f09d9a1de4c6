-- What one call does with the seats of a hand.
use Rattle.std.specs.Prelude.{◌≡◌, true, false, Some}
use Rattle.domains.specs.Shape.{Shape, is_of}
use Rattle.domains.specs.Drive.{Drive, same_drive}
use Rattle.domains.specs.DriveSet.{has}
use Rattle.board.specs.declared.board_view.View.{View}
use Rattle.flex_io.specs.declared.raw_place.RawPlace.{RawPlace}
use Rattle.slot_pool.specs.Pools.{PoolView}
use Rattle.held_slots.specs.Slots.{drive_of}
use Rattle.slot_yard.specs.Yards.{YardView}
use Rattle.turn_cell.specs.Seats.{SeatView, seat_view}
use Rattle.fabric.specs.PoolTurns.{FindsAll, Gives}
use Rattle.fabric.specs.YardTurns.{LooksOn, Puts, Retires}
use Rattle.fabric.specs.Views.{seat_on}
use Rattle.fabric.specs.declared.hand.Hand.{Hand}

module _ {S : Type 0} where
  -- the hand's seat at the pool of the drive did this, and every other seat of the hand is as before
  pub record AtPool (shape : Shape) (d : Drive) (what : SeatView (PoolView S) → SeatView (PoolView S) → Type 0) (old new : Hand S) : Type 0 where
    pub before : SeatView (PoolView S)
    pub after : SeatView (PoolView S)
    pub before_is : seat_on shape old d ≡ Some before
    pub after_is : seat_on shape new d ≡ Some after
    pub done : what before after
    pub others : (e : Drive) → is_of shape e ≡ true → same_drive e d ≡ false → seat_on shape new e ≡ seat_on shape old e
    pub yard : seat_view new.yard ≡ seat_view old.yard
    pub board : seat_view new.board ≡ seat_view old.board

  -- the hand's seat at the yard did this, and every other seat of the hand is as before
  pub record AtYard (shape : Shape) (what : SeatView (YardView S) → SeatView (YardView S) → Type 0) (old new : Hand S) : Type 0 where
    pub done : what (seat_view old.yard) (seat_view new.yard)
    pub pools : (e : Drive) → is_of shape e ≡ true → seat_on shape new e ≡ seat_on shape old e
    pub board : seat_view new.board ≡ seat_view old.board

  -- the hand's seats at the pool of the drive and at the yard did this, and every other seat of the hand is as before
  pub record AtBoth (shape : Shape) (d : Drive) (what : SeatView (PoolView S) → SeatView (PoolView S) → SeatView (YardView S) → SeatView (YardView S) → Type 0)
      (old new : Hand S) : Type 0 where
    pub before : SeatView (PoolView S)
    pub after : SeatView (PoolView S)
    pub before_is : seat_on shape old d ≡ Some before
    pub after_is : seat_on shape new d ≡ Some after
    pub done : what before after (seat_view old.yard) (seat_view new.yard)
    pub others : (e : Drive) → is_of shape e ≡ true → same_drive e d ≡ false → seat_on shape new e ≡ seat_on shape old e
    pub board : seat_view new.board ≡ seat_view old.board

module _ {S : Type 0} (place_of : S → RawPlace) where
  -- the slot goes to its pool where the view has its drive up, to the retired ones where the drive is gone, and else to the yard
  pub record Releases (shape : Shape) (view : View) (held : S) (old new : Hand S) : Type 0 where
    pub up : has view.up (drive_of place_of held) ≡ true → AtPool shape (drive_of place_of held) (Gives place_of held) old new
    pub gone : has view.up (drive_of place_of held) ≡ false → has view.gone (drive_of place_of held) ≡ true → AtYard shape (Retires place_of held) old new
    pub down : has view.up (drive_of place_of held) ≡ false → has view.gone (drive_of place_of held) ≡ false → AtYard shape (Puts place_of held) old new

  -- where the view has the drive up, its pool has all its slots; else the turn at the yard changes nothing
  pub record Refuses (shape : Shape) (view : View) (d : Drive) (old new : Hand S) : Type 0 where
    pub up : has view.up d ≡ true → AtPool shape d (FindsAll place_of) old new
    pub other : has view.up d ≡ false → AtYard shape (LooksOn place_of) old new
