-- How far a search for slots has come.
use Rattle.std.specs.List.{All}
use Rattle.std.specs.Prelude.{◌≡◌, ℕ, ◌+◌, ◌*◌, ◌<◌, ◌≤◌, ◌⊎◌, Bool, true, false, not, ◌&&◌, ◌||◌, List, [], ◌∷◌, ◌++◌, length, take, vec_capacity}
use Rattle.domains.specs.Shape.{Shape, IsShape, is_of}
use Rattle.domains.specs.Drive.{Drive, same_drive, is_in}
use Rattle.domains.specs.DriveSet.{has}
use Rattle.domains.specs.Room.{drives_on}
use Rattle.flex_io.specs.declared.raw_place.RawPlace.{RawPlace}
use Rattle.held_slots.specs.Slots.{count_on, drive_of, place_from}
use Rattle.domains.specs.Place.{IsPlaceOf}
use Rattle.fabric.specs.Accounts.{Holds, Loses, Stays}
use Rattle.fabric.specs.HandTurns.{AtPool}
use Rattle.fabric.specs.Cells.{FabricView}
use Rattle.fabric.specs.PoolTurns.{Gives, Takes}
use Rattle.fabric.specs.Views.{IsHandOf, number_of, seat_on}
use Rattle.turn_cell.specs.Seats.{seat_view}
use Rattle.fabric.specs.declared.hand.Hand.{Hand}
use Rattle.slot_search.specs.HandSeats.{AreOfCluster, Asks, AtSeat, FoundEmpty, Returns, drives_at, drives_of_all}
use Rattle.placement_order.specs.OrderLaws.{MayBeTried}
use Rattle.placement_order.specs.Order.{DrawRequest, drawn_in, drives_of, first_open, order_of, units_on, visits_of, with_drive}
use Rattle.placement_order.specs.PassedDrives.{passed_in, passed_on}
use Rattle.placement_order.specs.Room.{marked_up_to}
use Rattle.slot_search.specs.declared.empty_at.EmptyAt.{EmptyAt}
use Rattle.slot_search.specs.declared.search.Search.{Search}
use Rattle.slot_search.specs.declared.request.Request.{Request}

-- what a search asks for
abbrev pub request_of : Request → DrawRequest
request_of t = record {
  level = t.level;
  shape = t.shape;
  usable = λ d. has t.allowed d && has t.up d;
  used = has t.used;
  spin = t.spin;
}

-- the same where a barred drive is not usable
abbrev pub without_barred : Request → DrawRequest
without_barred t = record (request_of t) { usable = λ d. (request_of t).usable d && not (has t.barred d) }

module _ {S : Type 0} where
  -- the hand is the same one, still of the fabric, and its seat at the board made no turn
  pub record KeepsHand (f : FabricView) (old new : Hand S) : Type 0 where
    pub hand : IsHandOf f new
    pub number : number_of new ≡ number_of old
    pub board : seat_view new.board ≡ seat_view old.board

  -- the drive was tried, or is not to be
  abbrev pub is_closed : Search S → Drive → Bool
  is_closed search d = has search.taken d || has search.spent d

module _ {S : Type 0} (place_of : S → RawPlace) where
  -- what holds of a search on the way: its sets are those of its lists, and there is room for all that it may find
  pub record IsSearch (t : Request) (search : Search S) : Type 0 where
    pub cluster : IsShape t.shape
    pub places : All (λ held. IsPlaceOf t.shape (place_from (place_of held))) search.slots.items
    pub taken : (d : Drive) → is_of t.shape d ≡ true → has search.taken d ≡ (has t.used d || is_in (drives_of_all place_of search.slots.items) d)
    pub spent : (d : Drive) → is_of t.shape d ≡ true → has search.spent d ≡ (has t.barred d || is_in (drives_at search.empty.items) d)
    pub units : (node : ℕ) → 1 ≤ node → node ≤ t.shape.nodes
        → drives_on t.shape.drives node (has search.taken) ≡ units_on (request_of t) (drives_of_all place_of search.slots.items) node
    pub few : length search.slots.items ≤ t.count
    pub room : t.count ≤ vec_capacity search.slots
    pub tried : MayBeTried (request_of t) (drives_at search.empty.items)
    pub apart : (d : Drive) → is_of t.shape d ≡ true → is_in (drives_of_all place_of search.slots.items) d ≡ true → has search.spent d ≡ false
    pub counted : length search.empty.items ≤ marked_up_to t.shape.nodes t.shape.drives (has search.spent)
    pub space : t.shape.nodes * t.shape.drives ≤ vec_capacity search.empty

  -- the search may try the drive
  pub record MayTry (t : Request) (search : Search S) (d : Drive) : Type 0 where
    pub of_shape : is_of t.shape d ≡ true
    pub usable : (has t.allowed d && has t.up d) ≡ true
    pub not_closed : is_closed search d ≡ false
    pub wanted : length search.slots.items < t.count

  -- these may be the spent drives at the end of a search that has come so far
  pub record MayBeSpent (t : Request) (search : Search S) (spent : Drive → Bool) : Type 0 where
    pub closed : (d : Drive) → is_of t.shape d ≡ true → has search.spent d ≡ true → spent d ≡ true
    pub drawn : (d : Drive) → is_in (drives_of_all place_of search.slots.items) d ≡ true → spent d ≡ false

  -- the slots so far are the first of the order, whose visits left are these; and the drives found empty so far are the first of those
  -- passed over, behind those that were found before the search
  abbrev pub IsBefore : Request → List Drive → List (ℕ × ℕ) → Search S → Type 0
  IsBefore t before visits search = (spent : Drive → Bool) → MayBeSpent t search spent
      → (take t.count (order_of (without_barred t) spent) ≡ take t.count (drawn_in visits (without_barred t) spent (drives_of_all place_of search.slots.items)))
      × (passed_in (visits_of (without_barred t)) (without_barred t) spent t.count [] before
      ≡ passed_in visits (without_barred t) spent t.count (drives_of_all place_of search.slots.items) (drives_at search.empty.items))

  -- the hand's seats took these slots, in one turn each, and found the drives empty, in one turn each; no other seat at a pool made
  -- a turn, but those at the drives that are marked
  pub record HasTried (marked : Drive → Bool) (shape : Shape) (slots : List S) (found : List EmptyAt) (old new : Hand S) : Type 0 where
    pub taken : All (λ held. AtSeat shape (drive_of place_of held) (Takes place_of held) old new) slots
    pub empty : FoundEmpty place_of shape found old new
    pub others : (e : Drive) → is_of shape e ≡ true → marked e ≡ false → is_in (drives_of_all place_of slots) e ≡ false → is_in (drives_at found) e ≡ false
        → seat_on shape new e ≡ seat_on shape old e

  -- the hand's seats at the drives that are closed asked at most once, and those at others not at all
  abbrev pub AsksClosed : Shape → Search S → Hand S → Hand S → Type 0
  AsksClosed shape search old new = (e : Drive) → is_of shape e ≡ true
      → (seat_on shape new e ≡ seat_on shape old e) ⊎ ((is_closed search e ≡ true) × AtSeat shape e (Asks place_of) old new)

  -- the search goes on: what it drew and found is told from any start, and drives that were closed stay so, with no turn there
  pub record KeepsSearch (f : FabricView) (t : Request) (old new : Search S) (hand_old hand_new : Hand S) : Type 0 where
    pub hand : IsHandOf f hand_new
    pub number : number_of hand_new ≡ number_of hand_old
    pub board : seat_view hand_new.board ≡ seat_view hand_old.board
    pub yard : seat_view hand_new.yard ≡ seat_view hand_old.yard
    pub search : IsSearch t new
    pub came : (marked : Drive → Bool) → ((e : Drive) → is_of t.shape e ≡ true → marked e ≡ true → is_closed old e ≡ true) → (start : Hand S)
        → HasTried marked t.shape old.slots.items old.empty.items start hand_old → HasTried marked t.shape new.slots.items new.empty.items start hand_new
    pub account : (e : Drive) (many : ℕ) → is_of t.shape e ≡ true
        → Holds t.shape e (many + count_on place_of e old.slots.items) hand_old → Holds t.shape e (many + count_on place_of e new.slots.items) hand_new
    pub same : (e : Drive) → is_of t.shape e ≡ true → is_closed old e ≡ true → (is_closed new e ≡ true) × (seat_on t.shape hand_new e ≡ seat_on t.shape hand_old e)
    pub asked : AsksClosed t.shape new hand_old hand_new
    pub counted : length new.empty.items + marked_up_to t.shape.nodes t.shape.drives (has old.spent)
        ≤ length old.empty.items + marked_up_to t.shape.nodes t.shape.drives (has new.spent)
    pub found : (more : List EmptyAt) × (new.empty.items ≡ old.empty.items ++ more)

  -- the node's first open drive is drawn, if there is one, and the spent ones before it are passed over, whichever drives are spent in the end
  abbrev pub DrawsFirst : Request → ℕ → Search S → Search S → Type 0
  DrawsFirst t node old new = (spent : Drive → Bool) → MayBeSpent t new spent → MayBeSpent t old spent
      × (drives_of_all place_of new.slots.items
      ≡ with_drive (drives_of_all place_of old.slots.items) (first_open (without_barred t) spent (drives_of_all place_of old.slots.items) (drives_of (without_barred t) node)))
      × (drives_at new.empty.items
      ≡ passed_on (without_barred t) spent (drives_of_all place_of old.slots.items) (drives_of (without_barred t) node) (drives_at old.empty.items))

  -- the drive gave a slot, the last one
  pub record GivesSlot (d : Drive) (old new : Search S) : Type 0 where
    pub drives : drives_of_all place_of new.slots.items ≡ drives_of_all place_of old.slots.items ++ d ∷ []
    pub spent : new.spent ≡ old.spent
    pub empty : new.empty ≡ old.empty

module _ {S : Type 0} where
  -- the drive is spent now, and was found empty, the last one so far
  pub record IsSpentNow (shape : Shape) (d : Drive) (old new : Search S) : Type 0 where
    pub slots : new.slots.items ≡ old.slots.items
    pub spent : (e : Drive) → is_of shape e ≡ true → has new.spent e ≡ (same_drive e d || has old.spent e)
    pub empty : drives_at new.empty.items ≡ drives_at old.empty.items ++ d ∷ []

module _ {S : Type 0} (place_of : S → RawPlace) where
  -- the hand gave these slots back, but for some that are lost
  pub record GivesBack (shape : Shape) (slots : List S) (old new : Hand S) : Type 0 where
    pub lost : List S
    pub places : AreOfCluster place_of shape lost
    pub account : (d : Drive) (many : ℕ) → is_of shape d ≡ true → Holds shape d (many + count_on place_of d slots) old
        → Holds shape d (many + count_on place_of d lost) new

  -- the hand's seat at its drive returned the slot, whether it went to its pool or not; no other seat made a turn
  pub record ReleasesOne (f : FabricView) (held : S) (went : Bool) (old new : Hand S) : Type 0 where
    pub keeps : KeepsHand f old new
    pub yard : seat_view new.yard ≡ seat_view old.yard
    pub others : (e : Drive) → is_of f.shape e ≡ true → same_drive e (drive_of place_of held) ≡ false → seat_on f.shape new e ≡ seat_on f.shape old e
    pub once : AtSeat f.shape (drive_of place_of held) (Returns place_of) old new
    pub gives : went ≡ true → AtPool f.shape (drive_of place_of held) (Gives place_of held) old new
    pub less : went ≡ true → Loses f.shape (drive_of place_of held) old new
    pub same : went ≡ false → Stays f.shape old new

  -- the hand's seats at their drives gave all of these slots back, in a turn each
  pub record GivesAllBack (shape : Shape) (slots : List S) (old new : Hand S) : Type 0 where
    pub each : All (λ held. AtSeat shape (drive_of place_of held) (Gives place_of held) old new) slots
    pub account : (d : Drive) (many : ℕ) → is_of shape d ≡ true → Holds shape d (many + count_on place_of d slots) old → Holds shape d many new

  -- a search that has found nothing yet
  pub record IsNew (t : Request) (search : Search S) : Type 0 where
    pub is : IsSearch place_of t search
    pub slots : search.slots.items ≡ []
    pub empty : search.empty.items ≡ []
