-- A group once its slots are drawn, before any is written, and once all are written.
use Rattle.std.proofs.Common.{◌≡◌, ℕ, ◌+◌, ◌*◌, ◌<◌, ◌≤◌, ◌⊎◌, Bool, true, false, not, ◌&&◌, ◌||◌, List, [], ◌++◌, length, take, reverse, append-nil, refl, sym, ap, subst, ◌∙◌, arith}
use Rattle.std.specs.Prelude.{Option, vec_capacity}
use Rattle.std.specs.Global.{Vec}
use Rattle.std.specs.List.{All}
use Rattle.std.proofs.lemmas.Bool.{both_ways}
use Rattle.std.proofs.lemmas.List.{length-map, length-reverse, reverse-reverse}
use Rattle.std.proofs.lemmas.List.Elements.{All-nil}
use Rattle.domains.specs.Drive.{Drive, is_in}
use Rattle.domains.specs.DriveSet.{has}
use Rattle.domains.specs.Room.{drives_on}
use Rattle.flex_io.specs.declared.raw_place.RawPlace.{RawPlace}
use Rattle.held_slots.specs.Slots.{count_on, drive_of, place_from}
use Rattle.domains.specs.Place.{IsPlaceOf}
use Rattle.fabric.specs.Accounts.{Holds}
use Rattle.fabric.specs.Cells.{FabricView}
use Rattle.fabric.specs.PoolTurns.{Takes}
use Rattle.fabric.specs.declared.hand.Hand.{Hand}
use Rattle.slot_search.specs.HandSeats.{AtSeat, FoundEmpty, drives_at, drives_of_all}
use Rattle.placement_order.specs.OrderLaws.{MayBeTried, MayGive}
use Rattle.placement_order.specs.Order.{DrawRequest, order_of, units_on, visits_of}
use Rattle.placement_order.specs.PassedDrives.{passed_of}
use Rattle.placement_order.specs.Stages.{ComesTo, Stage}
use Rattle.placement.specs.PlacedGroups.{AreWritten, HasFailed, Places, drives_in, spent_by}
use Rattle.slot_search.specs.Searches.{IsBefore, KeepsSearch, request_of}
use Rattle.placement_order.specs.Room.{marked_up_to}
use Rattle.placement.specs.PartialGroups.{HasNoRoom, HasPlaced, IsAtStage, IsDrawnGroup, IsInOrder, IsNewGroup, slots_of}
use Rattle.placement.specs.declared.partial_group.PartialGroup.{PartialGroup}
use Rattle.slot_search.specs.declared.search.Search.{Search}
use Rattle.slot_search.specs.declared.request.Request.{Request}
use Rattle.placement_order.proofs.OrderMembers.{order-may_give, take-may_give}
use Rattle.slot_search.proofs.SearchEnd.{drew, passed, prefix, take-short}
use Rattle.placement_order.proofs.OrderComplete.{order-complete}
use Rattle.placement_order.proofs.PrefixDrives.{whole-prefixes}

none_tried : (s : DrawRequest) → MayBeTried s []
none_tried s = record {
  of_shape = λ d there. absurd (both_ways false refl there);
  usable = λ d there. absurd (both_ways false refl there);
  unused = λ d there. absurd (both_ways false refl there);
  apart = tt;
}

module _ {S : Type 0} (place_of : S → RawPlace) (content : S → Option (List ℕ)) (len_of faults : S → ℕ) (f : FabricView) (t : Request) (p : PartialGroup S)
    (is_new : IsNewGroup place_of t p) (q : Search S) (start mid : Hand S) (barred : (d : Drive) → has t.barred d ≡ false)
    (keeps : KeepsSearch place_of f t p.search q start mid) (order : (before : List Drive) → IsBefore place_of t before (visits_of (request_of t)) p.search → IsBefore place_of t before [] q) where
  abbrev found : Drive → Bool
  found = is_in (drives_at q.empty.items)

  prefix_is : take t.count (order_of (request_of t) found) ≡ drives_of_all place_of q.slots.items
  prefix_is = prefix place_of f t p.search q start mid barred is_new.search keeps order

  -- the slots wait, and the search has none
  record AllWait (new : PartialGroup S) : Type 0 where
    pub taken : new.search.taken ≡ q.taken
    pub spent : new.search.spent ≡ q.spent
    pub empty : new.search.empty ≡ q.empty
    pub none : new.search.slots.items ≡ []
    pub slots : vec_capacity new.search.slots ≡ vec_capacity q.slots
    pub waiting : new.waiting.items ≡ p.waiting.items ++ reverse q.slots.items
    pub capacity : vec_capacity new.waiting ≡ vec_capacity p.waiting
    pub written : new.written ≡ p.written
    pub failed : new.failed ≡ p.failed

  -- the group with its slots moved from the search to those that wait
  abbrev pub moved : Vec S → Vec S → PartialGroup S
  moved from to = record p { search = record q { slots = from }; waiting = to }

  all-wait : (from to : Vec S) → from.items ≡ [] → vec_capacity from ≡ vec_capacity q.slots → to.items ≡ p.waiting.items ++ reverse q.slots.items
      → vec_capacity to ≡ vec_capacity p.waiting → AllWait (moved from to)
  all-wait from to none slots waiting capacity = record {
    taken = refl;
    spent = refl;
    empty = refl;
    none = none;
    slots = slots;
    waiting = waiting;
    capacity = capacity;
    written = refl;
    failed = refl;
  }

  module _ (new : PartialGroup S) (wait : AllWait new) where
    none_failed : new.failed.items ≡ []
    none_failed = ap (λ (x : _). x.items) wait.failed ∙ is_new.failed

    none_written : new.written.items ≡ []
    none_written = ap (λ (x : _). x.items) wait.written ∙ is_new.written

    turned : reverse new.waiting.items ≡ q.slots.items
    turned = ap reverse (wait.waiting ∙ ap (λ xs. xs ++ reverse q.slots.items) is_new.waiting) ∙ reverse-reverse q.slots.items

    slots_are : slots_of new ≡ q.slots.items
    slots_are = ap (λ xs. xs ++ reverse new.waiting.items) none_written ∙ turned

    group : drives_of_all place_of (slots_of new) ≡ drives_of_all place_of q.slots.items
    group = ap (drives_of_all place_of) slots_are

    spent_is : (e : Drive) → spent_by new.failed.items new.search.empty.items e ≡ found e
    spent_is e = ap (λ xs. spent_by xs new.search.empty.items e) none_failed ∙ ap (λ (x : _). is_in (drives_at x.items) e) wait.empty

    may : MayGive (request_of t) (spent_by new.failed.items new.search.empty.items) (drives_of_all place_of (slots_of new))
    may =
        subst (λ xs. MayGive (request_of t) (spent_by xs new.search.empty.items) (drives_of_all place_of (slots_of new))) (sym none_failed)
        (subst (λ (x : _). MayGive (request_of t) (is_in (drives_at x.items)) (drives_of_all place_of (slots_of new))) (sym wait.empty)
        (subst (MayGive (request_of t) found) (prefix_is ∙ sym group)
        (take-may_give (request_of t) found t.count (order_of (request_of t) found) (order-may_give (request_of t) found))))

    start-in_order : IsInOrder place_of t new (slots_of new)
    start-in_order = record {
      cluster = keeps.search.cluster;
      none = wait.none;
      places = subst (All (λ held. IsPlaceOf t.shape (place_from (place_of held)))) (sym slots_are) keeps.search.places;
      taken = λ e of. ap (λ x. has x e) wait.taken ∙ keeps.search.taken e of ∙ ap (λ xs. has t.used e || is_in xs e) (sym group);
      spent = λ e of. ap (λ x. has x e) wait.spent ∙ keeps.search.spent e of ∙ ap (λ b. b || found e) (barred e) ∙ sym (spent_is e);
      units = λ node some within.
          ap (λ x. drives_on t.shape.drives node (has x)) wait.taken ∙ keeps.search.units node some within ∙ ap (λ xs. units_on (request_of t) xs node) (sym group);
      may = may;
      empty_tried = subst (λ (x : _). MayBeTried (request_of t) (drives_at x.items)) (sym wait.empty) keeps.search.tried;
      failed_tried = subst (λ xs. MayBeTried (request_of t) (drives_in xs)) (sym none_failed) (none_tried (request_of t));
      first = λ e there.
          subst (λ xs. is_in (take t.count (order_of (request_of t) (spent_by xs new.search.empty.items))) e ≡ true) (sym none_failed)
          (subst (λ (x : _). is_in (take t.count (order_of (request_of t) (is_in (drives_at x.items)))) e ≡ true) (sym wait.empty)
          (ap (λ xs. is_in xs e) (prefix_is ∙ sym group) ∙ there));
      apart = λ d there. absurd (both_ways false refl (ap (λ xs. is_in (drives_in xs) d) (sym none_failed) ∙ there));
      counted =
          let counted = keeps.search.counted in
          let none : length new.failed.items ≡ 0 = ap length none_failed in
          let long : length new.search.empty.items ≡ length q.empty.items = ap (λ (x : _). length x.items) wait.empty in
          let marked : marked_up_to t.shape.nodes t.shape.drives (has new.search.spent) ≡ marked_up_to t.shape.nodes t.shape.drives (has q.spent)
          = ap (λ x. marked_up_to t.shape.nodes t.shape.drives (has x)) wait.spent in
          omega (arith, counted, none, long, marked);
      few = subst (λ xs. length xs ≤ t.count) (sym slots_are) keeps.search.few;
      room = record {
        slots = λ some. let room = keeps.search.room in let same = wait.slots in omega (arith, room, same, some);
        waiting = subst (λ n. t.count ≤ n) (sym wait.capacity) is_new.room.waiting;
        written = subst (λ (x : _). t.count ≤ vec_capacity x) (sym wait.written) is_new.room.written;
        empty = subst (λ (x : _). t.shape.nodes * t.shape.drives ≤ vec_capacity x) (sym wait.empty) keeps.search.space;
        failed = subst (λ (x : _). t.shape.nodes * t.shape.drives ≤ vec_capacity x) (sym wait.failed) is_new.room.failed;
      };
    }

    -- the first stage is the draw
    start-stage : IsAtStage place_of t new (slots_of new)
    start-stage =
        let drawn : ComesTo (request_of t) t.count (drives_of_all place_of q.slots.items) [] (drives_at q.empty.items)
        = ap (λ slots. let made : Stage = record { slots = slots; failed = []; found = passed_of (request_of t) found t.count } in made) prefix_is
        ∙ ap (λ ds. let made : Stage = record { slots = drives_of_all place_of q.slots.items; failed = []; found = ds } in made)
        (sym (passed place_of f t p.search q start mid barred is_new.search keeps order)) in
        subst (λ ds. ComesTo (request_of t) t.count ds (drives_in new.failed.items) (drives_at new.search.empty.items)) (sym group)
        (subst (λ xs. ComesTo (request_of t) t.count (drives_of_all place_of q.slots.items) (drives_in xs) (drives_at new.search.empty.items)) (sym none_failed)
        (subst (λ (x : _). ComesTo (request_of t) t.count (drives_of_all place_of q.slots.items) [] (drives_at x.items)) (sym wait.empty) drawn))

    start-placed : (units : List (List ℕ)) → HasPlaced place_of content len_of faults t units new (slots_of new) start mid
    start-placed units =
        let came = drew place_of f t p.search q start mid barred is_new.search keeps order in
        record {
          written = subst (AreWritten place_of content len_of t.shape units start mid) (sym none_written) (λ k default within. absurd (omega (arith, within)));
          waiting = subst (All (λ held. AtSeat t.shape (drive_of place_of held) (Takes place_of held) start mid)) (sym turned) came.taken;
          empty = subst (λ (x : _). FoundEmpty place_of t.shape x.items start mid) (sym wait.empty) came.empty;
          failures = record { slots = []; places_are = sym none_failed; each = All-nil (HasFailed place_of faults t.shape start mid); retired = came.yard };
          others = λ e of out unspent. came.others e of (ap (λ xs. is_in xs e) (sym group) ∙ out) (sym (spent_is e) ∙ unspent);
          account = λ e many of holds. subst (λ xs. Holds t.shape e (many + count_on place_of e xs) mid) (sym slots_are) (came.account e many of holds);
        }

    start-no_room : length new.waiting.items < t.count → HasNoRoom place_of t new
    start-no_room short =
        let few : length (slots_of new) < t.count =
        let one = ap length slots_are in
        let two = ap length turned in
        let long = length-reverse new.waiting.items in
        omega (arith, short, one, two, long) in
        let all : order_of (request_of t) found ≡ drives_of_all place_of q.slots.items =
        let long = length-map q.slots.items (drive_of place_of) in
        let one = ap length slots_are in
        take-short t.count (order_of (request_of t) found) (drives_of_all place_of q.slots.items) prefix_is (omega (arith, few, long, one)) in
        record {
          stage = start-stage;
          short = few;
          none = λ d of left.
              subst (λ xs. (is_in xs d ≡ true) ⊎ (t.level.k ≤ units_on (request_of t) xs d.node)) (all ∙ sym group)
              (order-complete (request_of t) found d of
              (ap (λ b. (request_of t).usable d && (not (has t.used d) && not b)) (sym (spent_is d)) ∙ left));
        }

  pub is-drawn : (from to : Vec S) → from.items ≡ [] → vec_capacity from ≡ vec_capacity q.slots → to.items ≡ p.waiting.items ++ reverse q.slots.items
      → vec_capacity to ≡ vec_capacity p.waiting → IsDrawnGroup place_of content len_of faults t (moved from to) start mid
  is-drawn from to none slots waiting capacity =
      let wait = all-wait from to none slots waiting capacity in
      record { in_order = start-in_order (moved from to) wait; stage = start-stage (moved from to) wait; placed = start-placed (moved from to) wait; no_room = start-no_room (moved from to) wait }

-- all units are written
pub all-placed : {S : Type 0} (place_of : S → RawPlace) (content : S → Option (List ℕ)) (len_of faults : S → ℕ) (t : Request) (units : List (List ℕ)) (p : PartialGroup S) (start now : Hand S)
    → length units ≡ t.count → IsInOrder place_of t p (slots_of p) → IsAtStage place_of t p (slots_of p) → length (slots_of p) ≡ t.count → p.waiting.items ≡ []
    → HasPlaced place_of content len_of faults t units p (slots_of p) start now → Places place_of content len_of faults (request_of t) units p.written.items start now
all-placed place_of content len_of faults t units p start now many old stage full none placed =
    let slots : slots_of p ≡ p.written.items = ap (λ xs. p.written.items ++ reverse xs) none ∙ append-nil p.written.items in
    let spent : Drive → Bool = spent_by p.failed.items p.search.empty.items in
    let may : MayGive (request_of t) spent (drives_of_all place_of p.written.items) = subst (λ xs. MayGive (request_of t) spent (drives_of_all place_of xs)) slots old.may in
    let stages : ComesTo (request_of t) (length units) (drives_of_all place_of p.written.items) (drives_in p.failed.items) (drives_at p.search.empty.items)
    = subst (λ n. ComesTo (request_of t) n (drives_of_all place_of p.written.items) (drives_in p.failed.items) (drives_at p.search.empty.items)) (sym many)
    (subst (λ xs. ComesTo (request_of t) t.count (drives_of_all place_of xs) (drives_in p.failed.items) (drives_at p.search.empty.items)) slots stage) in
    let count : length (drives_of_all place_of p.written.items) ≡ t.count = length-map p.written.items (drive_of place_of) ∙ ap length (sym slots) ∙ full in
    record {
      found = p.search.empty.items;
      failed = p.failed.items;
      many = ap length (sym slots) ∙ full ∙ sym many;
      written = placed.written;
      may = may;
      first = λ d.
          whole-prefixes (request_of t) spent (drives_of_all place_of p.written.items) may.apart
          (λ e there. subst (λ n. is_in (take n (order_of (request_of t) spent)) e ≡ true) (sym count) (old.first e (ap (λ xs. is_in (drives_of_all place_of xs) e) slots ∙ there))) d
          ∙ ap (λ n. is_in (take n (order_of (request_of t) spent)) d) (count ∙ sym many);
      order = λ none_failed.
          ap (λ (x : Stage). x.slots)
          (sym (subst (λ xs. ComesTo (request_of t) (length units) (drives_of_all place_of p.written.items) (drives_in xs) (drives_at p.search.empty.items)) none_failed stages));
      stages = stages;
      tried = record {
        empty = placed.empty;
        empty_tried = old.empty_tried;
        failures = placed.failures;
        failed_tried = old.failed_tried;
        others = λ d of out unspent. placed.others d of (ap (λ xs. is_in (drives_of_all place_of xs) d) slots ∙ out) unspent;
      };
      account = λ d n of holds. subst (λ xs. Holds t.shape d (n + count_on place_of d xs) now) slots (placed.account d n of holds);
    }
