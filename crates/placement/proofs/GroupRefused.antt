-- A group that is not placed leaves the hand with what it held.
use Rattle.std.proofs.Common.{◌≡◌, ℕ, ◌+◌, true, false, List, [], ◌++◌, length, reverse, refl, sym, ap, subst, ◌∙◌, arith}
use Rattle.std.specs.Prelude.{Option}
use Rattle.std.specs.List.{All}
use Rattle.std.proofs.lemmas.Bool.{both_ways, false_from_ne_true, or_left, or_right}
use Rattle.std.proofs.lemmas.List.{length-map}
use Rattle.std.proofs.lemmas.List.Elements.{All-append, All-nil}
use Rattle.domains.specs.Shape.{Shape, is_of}
use Rattle.domains.specs.Drive.{Drive, is_in}
use Rattle.flex_io.specs.declared.raw_place.RawPlace.{RawPlace}
use Rattle.held_slots.specs.Slots.{count_on, drive_of, place_from}
use Rattle.domains.specs.Place.{IsPlaceOf}
use Rattle.held_slots.proofs.SlotCounts.{count_on-append}
use Rattle.turn_cell.specs.Seats.{seat_view}
use Rattle.fabric.specs.Accounts.{Holds}
use Rattle.fabric.specs.Cells.{FabricView}
use Rattle.fabric.specs.PoolTurns.{Gives}
use Rattle.fabric.specs.Views.{seat_on}
use Rattle.fabric.specs.declared.hand.Hand.{Hand}
use Rattle.placement_order.specs.OrderLaws.{MayBeTried, MayGive, NoneIsLeft}
use Rattle.placement_order.specs.Stages.{ComesTo}
use Rattle.placement_order.specs.Room.{room_left}
use Rattle.placement_order.proofs.GroupChanges.{is_left-parts}
use Rattle.placement_order.proofs.RoomFilled.{full-fills}
use Rattle.slot_search.specs.HandSeats.{AtSeat, FoundEmpty, WentBack, drives_at, drives_of_all}
use Rattle.placement.specs.Draws.{IfNoMemory, IfNoRoom, LosesSlots}
use Rattle.placement.specs.PartialGroups.{HasLost, HasPlaced, IsInOrder, TellsNoRoom, slots_of}
use Rattle.placement.specs.PlacedGroups.{FailedAndRetired, drives_in, spent_by}
use Rattle.slot_search.specs.Searches.{GivesAllBack, GivesBack, request_of}
use Rattle.placement.specs.declared.partial_group.PartialGroup.{PartialGroup}
use Rattle.placement.specs.declared.refusal.NoRoom.{NoRoom}
use Rattle.placement.specs.declared.refusal.PlaceRefusal.{PlaceRefusal}
use Rattle.placement.specs.declared.refusal.PlaceRefusal.TheVariants.{NoRoom as NoRoomOf, NoMemory}
use Rattle.slot_search.specs.declared.request.Request.{Request}
use Rattle.placement.proofs.OtherSeats.{empty-rests, failures-stay, takes-gives}
use Rattle.placement.proofs.SlotLists.{All-left, All-right}

module _ {S : Type 0} (place_of : S → RawPlace) (content : S → Option (List ℕ)) (len_of faults : S → ℕ) (f : FabricView) (t : Request) (p : PartialGroup S)
    (old : IsInOrder place_of t p (slots_of p)) (shape : f.shape ≡ t.shape) (before after : Hand S)
    (others : (e : Drive) → is_of f.shape e ≡ true → is_in (drives_of_all place_of (slots_of p)) e ≡ false → seat_on f.shape after e ≡ seat_on f.shape before e)
    (yard : seat_view after.yard ≡ seat_view before.yard) (back : GivesAllBack place_of f.shape (slots_of p) before after) where
  rests : (e : Drive) → is_of t.shape e ≡ true → is_in (drives_of_all place_of (slots_of p)) e ≡ false → seat_on t.shape after e ≡ seat_on t.shape before e
  rests e of out = subst (λ s. seat_on s after e ≡ seat_on s before e) shape (others e (subst (λ s. is_of s e ≡ true) (sym shape) of) out)

  -- a drive that is spent is none of the group
  spent_rests : (e : Drive) → is_of t.shape e ≡ true → spent_by p.failed.items p.search.empty.items e ≡ true → seat_on t.shape after e ≡ seat_on t.shape before e
  spent_rests e of spent =
      rests e of (false_from_ne_true _ (λ there.
      both_ways _ (is_left-parts (request_of t) (spent_by p.failed.items p.search.empty.items) e (old.may.left e there)).2 spent))

  gave : All (λ held. AtSeat t.shape (drive_of place_of held) (Gives place_of held) before after) (slots_of p)
  gave = subst (λ s. All (λ held. AtSeat s (drive_of place_of held) (Gives place_of held) before after) (slots_of p)) shape back.each

  all_went : (units : List (List ℕ)) (start : Hand S) → HasPlaced place_of content len_of faults t units p (slots_of p) start before
      → All (WentBack place_of t.shape start after) (slots_of p)
  all_went units start placed =
      let gave_written = All-left (λ held. AtSeat t.shape (drive_of place_of held) (Gives place_of held) before after) p.written.items (reverse p.waiting.items) gave in
      let gave_waiting = All-right (λ held. AtSeat t.shape (drive_of place_of held) (Gives place_of held) before after) p.written.items (reverse p.waiting.items) gave in
      All-append (WentBack place_of t.shape start after) p.written.items (reverse p.waiting.items)
      (λ k default within.
      let one = placed.written k default within in
      takes-gives place_of t.shape start before after one.drawn _ one.place one.taken (gave_written k default within))
      (λ k default within. takes-gives place_of t.shape start before after _ _ refl (placed.waiting k default within) (gave_waiting k default within))

  pub tells_no_room : (told : NoRoom) → told.need ≡ t.count → told.got ≡ length (slots_of p) → told.empty ≡ p.search.empty.items → told.failed ≡ p.failed.items
      → TellsNoRoom place_of content len_of faults t p told before after
  tells_no_room told need got empty failed units start many no_room placed =
      let spent : (e : Drive) → spent_by told.failed told.empty e ≡ spent_by p.failed.items p.search.empty.items e
      = λ e. ap (λ xs. spent_by xs told.empty e) failed ∙ ap (λ xs. spent_by p.failed.items xs e) empty in
      let long = length-map (slots_of p) (drive_of place_of) in
      let group = drives_of_all place_of (slots_of p) in
      record {
        slots = slots_of p;
        need = need ∙ sym many;
        got =
            got ∙ sym long ∙ full-fills (request_of t) (spent_by p.failed.items p.search.empty.items) group old.may no_room.none
            ∙ sym (ap (λ xs. room_left (request_of t) (spent_by xs told.empty)) failed ∙ ap (λ xs. room_left (request_of t) (spent_by p.failed.items xs)) empty);
        short = let short = no_room.short in omega (arith, short, got, many);
        may = subst (λ xs. MayGive (request_of t) (spent_by xs told.empty) group) (sym failed)
            (subst (λ xs. MayGive (request_of t) (spent_by p.failed.items xs) group) (sym empty) old.may);
        all = subst (λ xs. NoneIsLeft (request_of t) (spent_by xs told.empty) group) (sym failed)
            (subst (λ xs. NoneIsLeft (request_of t) (spent_by p.failed.items xs) group) (sym empty) no_room.none);
        stages =
            subst (λ n. ComesTo (request_of t) n group (drives_in told.failed) (drives_at told.empty)) (sym many)
            (subst (λ xs. ComesTo (request_of t) t.count group (drives_in xs) (drives_at told.empty)) (sym failed)
            (subst (λ xs. ComesTo (request_of t) t.count group (drives_in p.failed.items) (drives_at xs)) (sym empty) no_room.stage));
        went_back = all_went units start placed;
        tried = record {
          empty = subst (λ xs. FoundEmpty place_of t.shape xs start after) (sym empty)
              (empty-rests place_of t.shape start before after p.search.empty.items old.empty_tried.of_shape
              (λ e of there. spent_rests e of (or_right (is_in (drives_in p.failed.items) e) _ there)) placed.empty);
          empty_tried = subst (λ xs. MayBeTried (request_of t) (drives_at xs)) (sym empty) old.empty_tried;
          failures = subst (λ xs. FailedAndRetired place_of faults t.shape xs start after) (sym failed)
              (failures-stay place_of t.shape start before after faults p.failed.items
              (λ e of there. spent_rests e of (or_left _ (is_in (drives_at p.search.empty.items) e) there)) yard placed.failures);
          failed_tried = subst (λ xs. MayBeTried (request_of t) (drives_in xs)) (sym failed) old.failed_tried;
          others = λ d of out unspent. rests d of out ∙ placed.others d of out (sym (spent d) ∙ unspent);
        };
        same = λ d n of holds.
            subst (λ s. Holds s d n after) shape
            (back.account d n (subst (λ s. is_of s d ≡ true) (sym shape) of)
            (subst (λ s. Holds s d (n + count_on place_of d (slots_of p)) before) (sym shape) (placed.account d n of holds)));
      }

-- what is lost on the way, and when the group's slots go back
pub loses-slots : {S : Type 0} (place_of : S → RawPlace) (t : Request) (slots : List S) (start before after : Hand S)
    → HasLost place_of t.shape slots start before → GivesBack place_of t.shape slots before after → LosesSlots place_of t.shape start after
loses-slots place_of t slots start before after way back = record {
  lost = back.lost ++ way.lost;
  places = All-append (λ held. IsPlaceOf t.shape (place_from (place_of held))) back.lost way.lost back.places way.places;
  account = λ d many of holds.
      let both = count_on-append place_of d back.lost way.lost in
      let sum : many + (count_on place_of d slots + count_on place_of d way.lost) ≡ (many + count_on place_of d way.lost) + count_on place_of d slots = omega arith in
      let all : (many + count_on place_of d way.lost) + count_on place_of d back.lost ≡ many + count_on place_of d (back.lost ++ way.lost) = omega (arith, both) in
      subst (λ n. Holds t.shape d n after) all
      (back.account d (many + count_on place_of d way.lost) of (subst (λ n. Holds t.shape d n before) sum (way.account d many of holds)));
}

-- the same slots by another name, in the same cluster
pub gives-back-as : {S : Type 0} (place_of : S → RawPlace) (shape other : Shape) (slots same : List S) (before after : Hand S) → shape ≡ other → slots ≡ same
    → GivesBack place_of shape slots before after → GivesBack place_of other same before after
gives-back-as place_of shape other slots same before after shapes is back =
    subst (λ s. GivesBack place_of s same before after) shapes (subst (λ xs. GivesBack place_of shape xs before after) is back)

-- nothing is lost on the way of a group that goes on
pub none-lost : {S : Type 0} (place_of : S → RawPlace) (t : Request) (slots : List S) (start now : Hand S)
    → ((d : Drive) (many : ℕ) → is_of t.shape d ≡ true → Holds t.shape d many start → Holds t.shape d (many + count_on place_of d slots) now)
    → HasLost place_of t.shape slots start now
none-lost place_of t slots start now account = record {
  lost = [];
  places = All-nil (λ held. IsPlaceOf t.shape (place_from (place_of held)));
  account = λ d many of holds.
      let sum : many + count_on place_of d slots ≡ many + (count_on place_of d slots + count_on place_of d []) = omega arith in
      subst (λ n. Holds t.shape d n now) sum (account d many of holds);
}

-- a refusal for lack of room tells what follows from what it tells
pub if_no_room : (e : PlaceRefusal) (P Q : NoRoom → Type 0) → ((told : NoRoom) → P told → Q told) → IfNoRoom e P → IfNoRoom e Q
if_no_room (NoRoomOf told) P Q each holds = each told holds
if_no_room NoMemory P Q each holds = tt

-- a refusal that says that memory ran out tells what holds anyway
pub if_no_memory : (e : PlaceRefusal) (A : Type 0) → A → IfNoMemory e A
if_no_memory (NoRoomOf told) A holds = tt
if_no_memory NoMemory A holds = holds

-- a hand that did nothing lost nothing
pub loses-none : {S : Type 0} (place_of : S → RawPlace) (shape : Shape) (hand : Hand S) → LosesSlots place_of shape hand hand
loses-none place_of shape hand = record {
  lost = [];
  places = All-nil (λ held. IsPlaceOf shape (place_from (place_of held)));
  account = λ d many of holds.
      let sum : many ≡ many + count_on place_of d [] = omega arith in
      subst (λ n. Holds shape d n hand) sum holds;
}

-- of the slots that were drawn some are lost when they go back
pub draws-lost : {S : Type 0} (place_of : S → RawPlace) (shape other : Shape) (slots : List S) (start mid new : Hand S) → shape ≡ other
    → ((d : Drive) (many : ℕ) → is_of other d ≡ true → Holds other d many start → Holds other d (many + count_on place_of d slots) mid)
    → GivesBack place_of shape slots mid new → LosesSlots place_of other start new
draws-lost place_of shape other slots start mid new same account back =
    let there = subst (λ s. GivesBack place_of s slots mid new) same back in
    record { lost = there.lost; places = there.places; account = λ d many of holds. there.account d many of (account d many of holds) }
