-- What a call that places a group tells of its slots, and of the hand.
use Rattle.std.specs.Prelude.{◌≡◌, ℕ, ◌+◌, ◌<◌, Bool, true, false, ◌||◌, List, [], ◌∷◌, length, map, take, slice_index_or, Option}
use Rattle.std.specs.List.{All}
use Rattle.domains.specs.Shape.{Shape, is_of}
use Rattle.domains.specs.Drive.{Drive, is_in}
use Rattle.domains.specs.Place.{IsPlaceOf, Place}
use Rattle.flex_io.specs.Faults.{HasRisen}
use Rattle.flex_io.specs.Slots.{Holds as HoldsBytes, StaysTold}
use Rattle.flex_io.specs.declared.raw_place.RawPlace.{RawPlace}
use Rattle.galois.specs.Codeword.{unit_at}
use Rattle.held_slots.specs.Slots.{count_on, drive_of, place_from, places_from}
use Rattle.slot_yard.specs.Yards.{YardView}
use Rattle.turn_cell.specs.Seats.{SeatView, seat_view}
use Rattle.fabric.specs.Accounts.{Holds, Stays}
use Rattle.fabric.specs.PoolTurns.{Takes}
use Rattle.fabric.specs.YardTurns.{Retires}
use Rattle.fabric.specs.Views.{seat_on}
use Rattle.fabric.specs.declared.hand.Hand.{Hand}
use Rattle.placement_order.specs.Order.{DrawRequest, order_of}
use Rattle.placement_order.specs.OrderLaws.{MayBeTried, MayGive, NoneIsLeft}
use Rattle.placement_order.specs.Room.{room_left}
use Rattle.placement_order.specs.Stages.{ComesTo}
use Rattle.slot_search.specs.HandSeats.{AtSeat, FoundEmpty, WentBack, drives_at, drives_of_all}
use Rattle.slot_search.specs.declared.empty_at.EmptyAt.{EmptyAt}
use Rattle.placement.specs.declared.refusal.NoRoom.{NoRoom}

-- the drives of places
abbrev pub drives_in : List Place → List Drive
drives_in places = map (λ (p : Place). p.drive) places

-- whether the drive is spent: a slot of it failed, or it was found empty
abbrev pub spent_by : List Place → List EmptyAt → Drive → Bool
spent_by failed found d = is_in (drives_in failed) d || is_in (drives_at found) d

module _ {S : Type 0} (place_of : S → RawPlace) (content : S → Option (List ℕ)) (len_of : S → ℕ) where
  -- the hand's seat at its drive took the slot, and then it was written with this unit
  pub record IsWritten (shape : Shape) (unit : List ℕ) (old new : Hand S) (slot : S) : Type 0 where
    pub drawn : S
    pub place : place_of slot ≡ place_of drawn
    pub of_shape : IsPlaceOf shape (place_from (place_of slot))
    pub taken : AtSeat shape (drive_of place_of drawn) (Takes place_of drawn) old new
    pub holds : HoldsBytes (content slot) unit
    pub told : StaysTold (content drawn) (content slot)
    pub len : len_of slot ≡ length unit

  -- each slot was written with the unit of its position
  abbrev pub AreWritten : Shape → List (List ℕ) → Hand S → Hand S → List S → Type 0
  AreWritten shape units old new slots = (k : ℕ) (default : S) → k < length slots → IsWritten shape (unit_at units k) old new (slice_index_or slots k default)

module _ {S : Type 0} (place_of : S → RawPlace) where
  -- the seat at the yard retired these slots, in a turn each, in this order, and made no other turn
  abbrev pub RetiresEach : List S → SeatView (YardView S) → SeatView (YardView S) → Type 0
  RetiresEach [] old new = new ≡ old
  RetiresEach (slot ∷ slots) old new = (between : SeatView (YardView S)) × Retires place_of slot old between × RetiresEach slots between new

module _ {S : Type 0} (place_of : S → RawPlace) (faults : S → ℕ) where
  -- the hand's seat at its drive took the slot, and then its count of faults rose
  pub record HasFailed (shape : Shape) (old new : Hand S) (slot : S) : Type 0 where
    pub drawn : S
    pub place : place_of slot ≡ place_of drawn
    pub of_shape : IsPlaceOf shape (place_from (place_of slot))
    pub taken : AtSeat shape (drive_of place_of drawn) (Takes place_of drawn) old new
    pub rose : HasRisen (faults drawn) (faults slot)

  -- the slots of these places failed, and the hand's seat at the yard retired them in this order, in a turn each
  pub record FailedAndRetired (shape : Shape) (places : List Place) (old new : Hand S) : Type 0 where
    pub slots : List S
    pub places_are : places_from place_of slots ≡ places
    pub each : All (HasFailed shape old new) slots
    pub retired : RetiresEach place_of slots (seat_view old.yard) (seat_view new.yard)

  -- what the hand's seats did beside taking the slots of a group: they found these drives empty, took these slots, which failed, and
  -- retired them; at other drives they made no turn
  pub record Tried (s : DrawRequest) (slots : List S) (failed : List Place) (found : List EmptyAt) (old new : Hand S) : Type 0 where
    pub empty : FoundEmpty place_of s.shape found old new
    pub empty_tried : MayBeTried s (drives_at found)
    pub failures : FailedAndRetired s.shape failed old new
    pub failed_tried : MayBeTried s (drives_in failed)
    pub others : (d : Drive) → is_of s.shape d ≡ true → is_in (drives_of_all place_of slots) d ≡ false → spent_by failed found d ≡ false
        → seat_on s.shape new d ≡ seat_on s.shape old d

module _ {S : Type 0} (place_of : S → RawPlace) (content : S → Option (List ℕ)) (len_of faults : S → ℕ) where
  -- the group is placed: a slot for each unit, on the first drives of the order, where the drives are spent that were found empty or whose
  -- slot failed; position by position as the stages of the group tell, which also tell in which order the drives were found empty
  pub record Places (s : DrawRequest) (units : List (List ℕ)) (slots : List S) (old new : Hand S) : Type 0 where
    pub found : List EmptyAt
    pub failed : List Place
    pub many : length slots ≡ length units
    pub written : AreWritten place_of content len_of s.shape units old new slots
    pub may : MayGive s (spent_by failed found) (drives_of_all place_of slots)
    pub first : (d : Drive) → is_in (drives_of_all place_of slots) d ≡ is_in (take (length units) (order_of s (spent_by failed found))) d
    pub order : failed ≡ [] → drives_of_all place_of slots ≡ take (length units) (order_of s (is_in (drives_at found)))
    pub stages : ComesTo s (length units) (drives_of_all place_of slots) (drives_in failed) (drives_at found)
    pub tried : Tried place_of faults s slots failed found old new
    pub account : (d : Drive) (many : ℕ) → is_of s.shape d ≡ true → Holds s.shape d many old → Holds s.shape d (many + count_on place_of d slots) new

  -- fewer drives than units may give slots to the group together: no drive is left to these. Their slots went back to their pools, and the
  -- hand holds what it held. The drives found empty are named in the order in which they were found
  pub record FindsNoPlace (s : DrawRequest) (units : List (List ℕ)) (e : NoRoom) (old new : Hand S) : Type 0 where
    pub slots : List S
    pub need : e.need ≡ length units
    pub got : e.got ≡ room_left s (spent_by e.failed e.empty)
    pub short : e.got < length units
    pub may : MayGive s (spent_by e.failed e.empty) (drives_of_all place_of slots)
    pub all : NoneIsLeft s (spent_by e.failed e.empty) (drives_of_all place_of slots)
    pub stages : ComesTo s (length units) (drives_of_all place_of slots) (drives_in e.failed) (drives_at e.empty)
    pub went_back : All (WentBack place_of s.shape old new) slots
    pub tried : Tried place_of faults s slots e.failed e.empty old new
    pub same : Stays s.shape old new
