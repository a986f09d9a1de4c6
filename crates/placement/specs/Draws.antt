-- What a call that draws slots for a group tells of the slots, and of the hand.
use Rattle.std.specs.Prelude.{◌≡◌, ℕ, ◌+◌, ◌<◌, true, false, List, [], length, take, ⊤}
use Rattle.std.specs.List.{All}
use Rattle.domains.specs.Shape.{Shape, is_of}
use Rattle.domains.specs.Drive.{Drive, is_in}
use Rattle.flex_io.specs.declared.raw_place.RawPlace.{RawPlace}
use Rattle.held_slots.specs.Slots.{count_on}
use Rattle.turn_cell.specs.Seats.{seat_view}
use Rattle.fabric.specs.Accounts.{Holds, Stays}
use Rattle.fabric.specs.Views.{seat_on}
use Rattle.fabric.specs.declared.desk.Desk.{Desk}
use Rattle.fabric.specs.declared.hand.Hand.{Hand}
use Rattle.placement_order.specs.Order.{DrawRequest, order_of}
use Rattle.placement_order.specs.OrderLaws.{MayBeTried}
use Rattle.placement_order.specs.PassedDrives.{passed_of}
use Rattle.placement_order.specs.Room.{room_left}
use Rattle.slot_search.specs.declared.empty_at.EmptyAt.{EmptyAt}
use Rattle.slot_search.specs.HandSeats.{AreOfCluster, Drew, FoundEmpty, WentBack, drives_at, drives_of_all}
use Rattle.placement.specs.declared.refusal.NoRoom.{NoRoom}
use Rattle.placement.specs.declared.refusal.PlaceRefusal.{PlaceRefusal}
use Rattle.placement.specs.declared.refusal.PlaceRefusal.TheVariants.{NoRoom as NoRoomOf, NoMemory}

module _ {S : Type 0} (place_of : S → RawPlace) where
  -- n slots were drawn: those of the first drives of the order, where the drives found empty are spent, and are those passed over
  pub record Draws (s : DrawRequest) (count : ℕ) (slots : List S) (old new : Hand S) : Type 0 where
    pub found : List EmptyAt
    pub many : length slots ≡ count
    pub order : drives_of_all place_of slots ≡ take count (order_of s (is_in (drives_at found)))
    pub passed : drives_at found ≡ passed_of s (is_in (drives_at found)) count
    pub tried : MayBeTried s (drives_at found)
    pub drew : Drew place_of s.shape slots found old new

  -- fewer than n drives have a free slot. The hand's seats took these slots, those of all drives of the order, and gave them back to their
  -- pools; they found the named drives empty, in one turn each, in the order of their names; no other seat made a turn, and the hand holds
  -- what it held
  pub record FindsNoRoom (s : DrawRequest) (count : ℕ) (e : NoRoom) (old new : Hand S) : Type 0 where
    pub slots : List S
    pub need : e.need ≡ count
    pub got : e.got ≡ room_left s (is_in (drives_at e.empty))
    pub short : e.got < count
    pub order : drives_of_all place_of slots ≡ order_of s (is_in (drives_at e.empty))
    pub passed : drives_at e.empty ≡ passed_of s (is_in (drives_at e.empty)) count
    pub went_back : All (WentBack place_of s.shape old new) slots
    pub tried : MayBeTried s (drives_at e.empty)
    pub found : FoundEmpty place_of s.shape e.empty old new
    pub others : (d : Drive) → is_of s.shape d ≡ true → is_in (drives_of_all place_of slots) d ≡ false → is_in (drives_at e.empty) d ≡ false
        → seat_on s.shape new d ≡ seat_on s.shape old d
    pub yard : seat_view new.yard ≡ seat_view old.yard
    pub none_failed : e.failed ≡ []
    pub same : Stays s.shape old new

  -- the hand holds what it held, and these slots, which are lost
  pub record LosesSlots (shape : Shape) (old new : Hand S) : Type 0 where
    pub lost : List S
    pub places : AreOfCluster place_of shape lost
    pub account : (d : Drive) (many : ℕ) → is_of shape d ≡ true → Holds shape d many old → Holds shape d (many + count_on place_of d lost) new

-- if a group was not placed for lack of room
abbrev pub IfNoRoom : PlaceRefusal → (NoRoom → Type 0) → Type 0
IfNoRoom (NoRoomOf told) holds = holds told
IfNoRoom NoMemory holds = ⊤

-- if a group was not placed because memory ran out
abbrev pub IfNoMemory : PlaceRefusal → Type 0 → Type 0
IfNoMemory (NoRoomOf told) holds = ⊤
IfNoMemory NoMemory holds = holds

-- what a call leaves of its desk, beside the seats of the hand
pub record IsSameDesk {S G : Type 0} (old new : Desk S G) : Type 0 where
  pub fabric : new.fabric.now ≡ old.fabric.now
  pub gate : new.gate.now ≡ old.gate.now
  pub by : new.by ≡ old.by
  pub hand : new.hand.ghost_name ≡ old.hand.ghost_name
