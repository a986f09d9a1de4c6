-- How far a group is placed.
use Rattle.std.specs.Prelude.{◌≡◌, ℕ, ◌+◌, ◌*◌, ◌<◌, ◌≤◌, true, false, not, ◌&&◌, ◌||◌, List, [], ◌∷◌, ◌++◌, length, take, reverse, vec_capacity, Option}
use Rattle.std.specs.List.{All}
use Rattle.domains.specs.Shape.{IsShape, Shape, is_of}
use Rattle.domains.specs.Drive.{Drive, IsDrive, is_in, same_drive}
use Rattle.domains.specs.DriveSet.{has}
use Rattle.domains.specs.Room.{drives_on}
use Rattle.flex_io.specs.Faults.{HasRisen}
use Rattle.flex_io.specs.declared.raw_place.RawPlace.{RawPlace}
use Rattle.held_slots.specs.Slots.{count_on, drive_of, place_from}
use Rattle.domains.specs.Place.{IsPlaceOf, Place}
use Rattle.fabric.specs.Accounts.{Holds}
use Rattle.fabric.specs.PoolTurns.{Takes}
use Rattle.fabric.specs.Views.{seat_on}
use Rattle.fabric.specs.declared.hand.Hand.{Hand}
use Rattle.slot_search.specs.HandSeats.{AreOfCluster, AtSeat, FoundEmpty, drives_at, drives_of_all}
use Rattle.placement_order.specs.OrderLaws.{MayBeTried, NoneIsLeft, MayGive}
use Rattle.placement_order.specs.Order.{order_of, units_on}
use Rattle.placement_order.specs.Stages.{ComesTo}
use Rattle.placement.specs.PlacedGroups.{AreWritten, FailedAndRetired, FindsNoPlace, drives_in, spent_by}
use Rattle.slot_search.specs.Searches.{IsNew, request_of}
use Rattle.placement_order.specs.Room.{marked_up_to}
use Rattle.placement.specs.declared.partial_group.PartialGroup.{PartialGroup}
use Rattle.placement.specs.declared.refusal.NoRoom.{NoRoom}
use Rattle.slot_search.specs.declared.request.Request.{Request}

module _ {S : Type 0} where
  -- the group's slots by position: those that are written, and those that wait, of which the next one stands last
  abbrev pub slots_of : PartialGroup S → List S
  slots_of p = p.written.items ++ reverse p.waiting.items

  -- the group's slots by position, with this one between those that are written and those that wait
  abbrev pub slots_with : PartialGroup S → S → List S
  slots_with p slot = p.written.items ++ slot ∷ reverse p.waiting.items

  -- there is room for all slots that a group may have, and for all drives that may be empty or fail
  pub record HasRoom (t : Request) (p : PartialGroup S) : Type 0 where
    pub slots : 1 ≤ t.count → 1 ≤ vec_capacity p.search.slots
    pub waiting : t.count ≤ vec_capacity p.waiting
    pub written : t.count ≤ vec_capacity p.written
    pub empty : t.shape.nodes * t.shape.drives ≤ vec_capacity p.search.empty
    pub failed : t.shape.nodes * t.shape.drives ≤ vec_capacity p.failed

  -- the slot of this place failed: the drive is taken off those that the group has and is spent, and the place is the last that failed
  pub record NotesFailure (place : Place) (old new : PartialGroup S) : Type 0 where
    pub removed : (e : Drive) → IsDrive e → has new.search.taken e ≡ (not (same_drive e place.drive) && has old.search.taken e)
    pub added : (e : Drive) → IsDrive e → has new.search.spent e ≡ (same_drive e place.drive || has old.search.spent e)
    pub slots : new.search.slots ≡ old.search.slots
    pub empty : new.search.empty ≡ old.search.empty
    pub waiting : new.waiting ≡ old.waiting
    pub written : new.written ≡ old.written
    pub failed : new.failed.items ≡ old.failed.items ++ place ∷ []
    pub capacity : vec_capacity new.failed ≡ vec_capacity old.failed

module _ {S : Type 0} (place_of : S → RawPlace) where
  -- a group that is being placed, of these slots: its sets are those of its lists, and its drives may give slots together and are among the
  -- first of the order; no drive that failed was found empty
  pub record IsInOrder (t : Request) (p : PartialGroup S) (slots : List S) : Type 0 where
    pub cluster : IsShape t.shape
    pub none : p.search.slots.items ≡ []
    pub places : All (λ held. IsPlaceOf t.shape (place_from (place_of held))) slots
    pub taken : (d : Drive) → is_of t.shape d ≡ true → has p.search.taken d ≡ (has t.used d || is_in (drives_of_all place_of slots) d)
    pub spent : (d : Drive) → is_of t.shape d ≡ true → has p.search.spent d ≡ spent_by p.failed.items p.search.empty.items d
    pub units : (node : ℕ) → 1 ≤ node → node ≤ t.shape.nodes
        → drives_on t.shape.drives node (has p.search.taken) ≡ units_on (request_of t) (drives_of_all place_of slots) node
    pub may : MayGive (request_of t) (spent_by p.failed.items p.search.empty.items) (drives_of_all place_of slots)
    pub empty_tried : MayBeTried (request_of t) (drives_at p.search.empty.items)
    pub failed_tried : MayBeTried (request_of t) (drives_in p.failed.items)
    pub first : (d : Drive) → is_in (drives_of_all place_of slots) d ≡ true
        → is_in (take t.count (order_of (request_of t) (spent_by p.failed.items p.search.empty.items))) d ≡ true
    pub apart : (d : Drive) → is_in (drives_in p.failed.items) d ≡ true → is_in (drives_at p.search.empty.items) d ≡ false
    pub counted : length p.search.empty.items + length p.failed.items ≤ marked_up_to t.shape.nodes t.shape.drives (has p.search.spent)
    pub few : length slots ≤ t.count
    pub room : HasRoom t p

  -- the group came to these slots, by position, and found drives empty in the order of its list
  abbrev pub IsAtStage : Request → PartialGroup S → List S → Type 0
  IsAtStage t p slots = ComesTo (request_of t) t.count (drives_of_all place_of slots) (drives_in p.failed.items) (drives_at p.search.empty.items)

  -- the group was at a stage when the last slot failed, which stood between those that are written and those that wait
  pub record IsBetweenStages (t : Request) (p : PartialGroup S) : Type 0 where
    pub earlier : List Drive
    pub last : Drive
    pub failed : drives_in p.failed.items ≡ earlier ++ last ∷ []
    pub stage : ComesTo (request_of t) t.count (drives_of_all place_of p.written.items ++ last ∷ drives_of_all place_of (reverse p.waiting.items)) earlier
        (drives_at p.search.empty.items)

module _ {S : Type 0} (place_of : S → RawPlace) (content : S → Option (List ℕ)) (len_of faults : S → ℕ) where
  -- what the hand did since the start, to come to these slots of the group
  pub record HasPlaced (t : Request) (units : List (List ℕ)) (p : PartialGroup S) (slots : List S) (start now : Hand S) : Type 0 where
    pub written : AreWritten place_of content len_of t.shape units start now p.written.items
    pub waiting : All (λ held. AtSeat t.shape (drive_of place_of held) (Takes place_of held) start now) (reverse p.waiting.items)
    pub empty : FoundEmpty place_of t.shape p.search.empty.items start now
    pub failures : FailedAndRetired place_of faults t.shape p.failed.items start now
    pub others : (d : Drive) → is_of t.shape d ≡ true → is_in (drives_of_all place_of slots) d ≡ false
        → spent_by p.failed.items p.search.empty.items d ≡ false → seat_on t.shape now d ≡ seat_on t.shape start d
    pub account : (d : Drive) (many : ℕ) → is_of t.shape d ≡ true → Holds t.shape d many start → Holds t.shape d (many + count_on place_of d slots) now

  -- the group goes on, whatever the start was
  abbrev pub GoesOn : Request → List (List ℕ) → PartialGroup S → PartialGroup S → Hand S → Hand S → Type 0
  GoesOn t units old new hand_old hand_new = (start : Hand S) → HasPlaced t units old (slots_of old) start hand_old → HasPlaced t units new (slots_of new) start hand_new

  -- the same where this slot, as it was drawn, stands out of its place
  abbrev pub GoesOnFrom : Request → List (List ℕ) → S → PartialGroup S → PartialGroup S → Hand S → Hand S → Type 0
  GoesOnFrom t units slot old new hand_old hand_new = (start : Hand S) → AtSeat t.shape (drive_of place_of slot) (Takes place_of slot) start hand_old
      → HasPlaced t units old (slots_with old slot) start hand_old → HasPlaced t units new (slots_of new) start hand_new

  -- the same where this slot, which is the one that was drawn there and whose count of faults rose since, stands out of its place
  abbrev pub GoesOnWith : Request → List (List ℕ) → S → PartialGroup S → PartialGroup S → Hand S → Hand S → Type 0
  GoesOnWith t units slot old new hand_old hand_new = (start : Hand S) (drawn : S) → place_of slot ≡ place_of drawn → HasRisen (faults drawn) (faults slot)
      → AtSeat t.shape (drive_of place_of drawn) (Takes place_of drawn) start hand_old
      → HasPlaced t units old (slots_with old slot) start hand_old → HasPlaced t units new (slots_of new) start hand_new

module _ {S : Type 0} (place_of : S → RawPlace) where
  -- since the start the hand came to these slots, and to others, which are lost
  pub record HasLost (shape : Shape) (slots : List S) (start now : Hand S) : Type 0 where
    pub lost : List S
    pub places : AreOfCluster place_of shape lost
    pub account : (d : Drive) (many : ℕ) → is_of shape d ≡ true → Holds shape d many start
        → Holds shape d (many + (count_on place_of d slots + count_on place_of d lost)) now

  -- nothing is drawn yet
  pub record IsNewGroup (t : Request) (p : PartialGroup S) : Type 0 where
    pub search : IsNew place_of t p.search
    pub waiting : p.waiting.items ≡ []
    pub written : p.written.items ≡ []
    pub failed : p.failed.items ≡ []
    pub room : HasRoom t p

  -- the group has fewer slots than it wants, and no drive is left
  pub record HasNoRoom (t : Request) (p : PartialGroup S) : Type 0 where
    pub stage : IsAtStage place_of t p (slots_of p)
    pub short : length (slots_of p) < t.count
    pub none : NoneIsLeft (request_of t) (spent_by p.failed.items p.search.empty.items) (drives_of_all place_of (slots_of p))

module _ {S : Type 0} (place_of : S → RawPlace) (content : S → Option (List ℕ)) (len_of faults : S → ℕ) where
  -- all slots of the group are drawn that there are, and wait
  pub record IsDrawnGroup (t : Request) (p : PartialGroup S) (start now : Hand S) : Type 0 where
    pub in_order : IsInOrder place_of t p (slots_of p)
    pub stage : IsAtStage place_of t p (slots_of p)
    pub placed : (units : List (List ℕ)) → HasPlaced place_of content len_of faults t units p (slots_of p) start now
    pub no_room : length p.waiting.items < t.count → HasNoRoom place_of t p

  -- the refusal tells why the group has no room, whatever the start was
  abbrev pub TellsNoRoom : Request → PartialGroup S → NoRoom → Hand S → Hand S → Type 0
  TellsNoRoom t p told hand_old hand_new = (units : List (List ℕ)) (start : Hand S) → length units ≡ t.count → HasNoRoom place_of t p
      → HasPlaced place_of content len_of faults t units p (slots_of p) start hand_old
      → FindsNoPlace place_of content len_of faults (request_of t) units told start hand_new

  -- on the way from these slots of the old group to those of the new one the hand lost no others than it tells, whatever the start was
  abbrev pub LosesOnTheWay : Request → List (List ℕ) → PartialGroup S → List S → PartialGroup S → Hand S → Hand S → Type 0
  LosesOnTheWay t units old slots new hand_old hand_new = (start : Hand S) → HasPlaced place_of content len_of faults t units old slots start hand_old
      → HasLost place_of t.shape (slots_of new) start hand_new
