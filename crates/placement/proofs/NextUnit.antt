-- A unit is written, and the slot of the next one stands out of its place.
use Rattle.std.proofs.Common.{◌≡◌, ℕ, ◌+◌, ◌≤◌, inl, inr, ◌||◌, List, [], ◌∷◌, ◌++◌, length, reverse, append_assoc, sym, ap, subst, ◌∙◌, arith}
use Rattle.std.specs.Prelude.{Option, vec_capacity}
use Rattle.std.specs.List.{All}
use Rattle.std.proofs.lemmas.Bool.{cases_lt}
use Rattle.std.proofs.lemmas.List.{get_or_append_left, get_or_push, length-append, length_push, map-append, reverse-append}
use Rattle.std.proofs.lemmas.List.Elements.{All-head, All-tail}
use Rattle.domains.specs.Drive.{Drive, same_drive, is_in}
use Rattle.domains.specs.DriveSet.{has}
use Rattle.flex_io.specs.Slots.{Holds as HoldsBytes, StaysTold}
use Rattle.flex_io.specs.declared.raw_place.RawPlace.{RawPlace}
use Rattle.galois.specs.Codeword.{unit_at}
use Rattle.held_slots.specs.Slots.{count_on, drive_of, place_from}
use Rattle.domains.specs.Place.{IsPlaceOf}
use Rattle.fabric.specs.Accounts.{Holds}
use Rattle.fabric.specs.PoolTurns.{Takes}
use Rattle.fabric.specs.declared.hand.Hand.{Hand}
use Rattle.slot_search.specs.HandSeats.{AtSeat, drives_at, drives_of_all}
use Rattle.placement_order.specs.Stages.{ComesTo}
use Rattle.placement_order.specs.Order.{units_on}
use Rattle.placement_order.specs.OrderLaws.{MayGive}
use Rattle.placement.specs.PlacedGroups.{AreWritten, IsWritten, drives_in, spent_by}
use Rattle.slot_search.specs.Searches.{request_of}
use Rattle.placement.specs.PartialGroups.{HasPlaced, IsAtStage, IsInOrder, slots_of, slots_with}
use Rattle.placement.specs.declared.partial_group.PartialGroup.{PartialGroup}
use Rattle.slot_search.specs.declared.request.Request.{Request}
use Rattle.placement.proofs.SlotLists.{All-midst, All-with, All-without}
use Rattle.domains.specs.Counts.{one_if}
use Rattle.placement.proofs.SlotRetired.{count_on-between}

module _ {S : Type 0} (place_of : S → RawPlace) where
  -- a slot of the same place stands for it
  drives-as : (xs ys : List S) (a b : S) → place_of a ≡ place_of b → drives_of_all place_of (xs ++ a ∷ ys) ≡ drives_of_all place_of (xs ++ b ∷ ys)
  drives-as xs ys a b same =
      map-append (drive_of place_of) xs (a ∷ ys)
      ∙ ap (λ p. drives_of_all place_of xs ++ (place_from p).drive ∷ drives_of_all place_of ys) same
      ∙ sym (map-append (drive_of place_of) xs (b ∷ ys))

  count-as : (e : Drive) (xs ys : List S) (a b : S) → place_of a ≡ place_of b → count_on place_of e (xs ++ a ∷ ys) ≡ count_on place_of e (xs ++ b ∷ ys)
  count-as e xs ys a b same =
      let one = count_on-between place_of e xs ys a in
      let two = count_on-between place_of e xs ys b in
      let equal = ap (λ p. one_if (same_drive e (place_from p).drive)) same in
      omega (arith, one, two, equal)

  -- the same lists and sets, with slots of the same drives
  pub IsInOrder-as : (t : Request) (p q : PartialGroup S) (slots now : List S) → drives_of_all place_of now ≡ drives_of_all place_of slots → length now ≡ length slots
      → All (λ held. IsPlaceOf t.shape (place_from (place_of held))) now → t.count ≤ vec_capacity q.waiting → t.count ≤ vec_capacity q.written
      → IsInOrder place_of t p slots → IsInOrder place_of t (record q { search = p.search; failed = p.failed }) now
  IsInOrder-as t p q slots now same long places waiting written old = record {
    cluster = old.cluster;
    none = old.none;
    places = places;
    taken = λ d of. old.taken d of ∙ ap (λ xs. has t.used d || is_in xs d) (sym same);
    spent = old.spent;
    units = λ node some within. old.units node some within ∙ ap (λ xs. units_on (request_of t) xs node) (sym same);
    may = subst (MayGive (request_of t) (spent_by p.failed.items p.search.empty.items)) (sym same) old.may;
    empty_tried = old.empty_tried;
    failed_tried = old.failed_tried;
    first = λ e there. old.first e (ap (λ xs. is_in xs e) (sym same) ∙ there);
    apart = old.apart;
    counted = old.counted;
    few = subst (λ n. n ≤ t.count) (sym long) old.few;
    room = record { slots = old.room.slots; waiting = waiting; written = written; empty = old.room.empty; failed = old.room.failed };
  }

  -- and the same stage
  stage-as : (t : Request) (p : PartialGroup S) (slots now : List S) → drives_of_all place_of now ≡ drives_of_all place_of slots
      → IsAtStage place_of t p slots → IsAtStage place_of t p now
  stage-as t p slots now same stage = subst (λ ds. ComesTo (request_of t) t.count ds (drives_in p.failed.items) (drives_at p.search.empty.items)) (sym same) stage

  places-as : (t : Request) (xs ys : List S) (a b : S) → place_of a ≡ place_of b → All (λ held. IsPlaceOf t.shape (place_from (place_of held))) (xs ++ b ∷ ys)
      → All (λ held. IsPlaceOf t.shape (place_from (place_of held))) (xs ++ a ∷ ys)
  places-as t xs ys a b same all =
      let P : S → Type 0 = λ held. IsPlaceOf t.shape (place_from (place_of held)) in
      All-with P xs ys a (subst (λ x. IsPlaceOf t.shape (place_from x)) (sym same) (All-midst P xs ys b all)) (All-without P xs ys b all)

  module _ (t : Request) (p q : PartialGroup S) (held slot : S) (same : place_of slot ≡ place_of held) (old : IsInOrder place_of t p (slots_with p held)) where
    -- the slot that stands out of its place, once a write was tried
    pub changed-in_order : IsInOrder place_of t p (slots_with p slot)
    changed-in_order =
        let one = length-append p.written.items (slot ∷ reverse p.waiting.items) in
        let two = length-append p.written.items (held ∷ reverse p.waiting.items) in
        IsInOrder-as t p p (slots_with p held) (slots_with p slot) (drives-as p.written.items (reverse p.waiting.items) slot held same) (omega (arith, one, two))
        (places-as t p.written.items (reverse p.waiting.items) slot held same old.places) old.room.waiting old.room.written old

    pub changed-stage : IsAtStage place_of t p (slots_with p held) → IsAtStage place_of t p (slots_with p slot)
    changed-stage = stage-as t p (slots_with p held) (slots_with p slot) (drives-as p.written.items (reverse p.waiting.items) slot held same)

    -- the slot is the last that is written
    pub written-stage : q.written.items ≡ p.written.items ++ slot ∷ [] → IsAtStage place_of t p (slots_with p held) → IsAtStage place_of t p (q.written.items ++ reverse p.waiting.items)
    written-stage is stage =
        stage-as t p (slots_with p slot) (q.written.items ++ reverse p.waiting.items)
        (ap (drives_of_all place_of) (ap (λ xs. xs ++ reverse p.waiting.items) is ∙ append_assoc p.written.items (slot ∷ []) (reverse p.waiting.items))) (changed-stage stage)

    pub written-in_order : q.written.items ≡ p.written.items ++ slot ∷ [] → vec_capacity q.written ≡ vec_capacity p.written
        → IsInOrder place_of t (record q { search = p.search; waiting = p.waiting; failed = p.failed }) (q.written.items ++ reverse p.waiting.items)
    written-in_order is capacity =
        let now : q.written.items ++ reverse p.waiting.items ≡ slots_with p slot = ap (λ xs. xs ++ reverse p.waiting.items) is ∙ append_assoc p.written.items (slot ∷ []) (reverse p.waiting.items) in
        IsInOrder-as t p (record q { waiting = p.waiting }) (slots_with p slot) (q.written.items ++ reverse p.waiting.items) (ap (drives_of_all place_of) now) (ap length now)
        (subst (All (λ x. IsPlaceOf t.shape (place_from (place_of x)))) (sym now) (places-as t p.written.items (reverse p.waiting.items) slot held same old.places))
        old.room.waiting (subst (λ n. t.count ≤ n) (sym capacity) old.room.written) changed-in_order

    -- the slot waits again
    pub waiting-in_order : q.waiting.items ≡ p.waiting.items ++ slot ∷ [] → vec_capacity q.waiting ≡ vec_capacity p.waiting
        → IsInOrder place_of t (record q { search = p.search; written = p.written; failed = p.failed }) (p.written.items ++ reverse q.waiting.items)
    waiting-in_order is capacity =
        let now : p.written.items ++ reverse q.waiting.items ≡ slots_with p slot
        = ap (λ xs. p.written.items ++ reverse xs) is ∙ ap (λ xs. p.written.items ++ xs) (reverse-append p.waiting.items (slot ∷ [])) in
        IsInOrder-as t p (record q { written = p.written }) (slots_with p slot) (p.written.items ++ reverse q.waiting.items) (ap (drives_of_all place_of) now) (ap length now)
        (subst (All (λ x. IsPlaceOf t.shape (place_from (place_of x)))) (sym now) (places-as t p.written.items (reverse p.waiting.items) slot held same old.places))
        (subst (λ n. t.count ≤ n) (sym capacity) old.room.waiting) old.room.written changed-in_order

  -- the next slot is taken out of its place
  module _ (t : Request) (p q : PartialGroup S) (held : S) (is : p.waiting.items ≡ q.waiting.items ++ held ∷ []) where
    turned : reverse p.waiting.items ≡ held ∷ reverse q.waiting.items
    turned = ap reverse is ∙ reverse-append q.waiting.items (held ∷ [])

    pub popped : slots_of p ≡ p.written.items ++ held ∷ reverse q.waiting.items
    popped = ap (λ xs. p.written.items ++ xs) turned

    pub popped-stage : IsAtStage place_of t p (slots_of p) → IsAtStage place_of t p (p.written.items ++ held ∷ reverse q.waiting.items)
    popped-stage = stage-as t p (slots_of p) (p.written.items ++ held ∷ reverse q.waiting.items) (ap (drives_of_all place_of) (sym popped))

    pub popped-in_order : vec_capacity q.waiting ≡ vec_capacity p.waiting → IsInOrder place_of t p (slots_of p)
        → IsInOrder place_of t (record q { search = p.search; written = p.written; failed = p.failed }) (p.written.items ++ held ∷ reverse q.waiting.items)
    popped-in_order capacity old =
        IsInOrder-as t p (record q { written = p.written }) (slots_of p) (p.written.items ++ held ∷ reverse q.waiting.items) (ap (drives_of_all place_of) (sym popped)) (ap length (sym popped))
        (subst (All (λ x. IsPlaceOf t.shape (place_from (place_of x)))) popped old.places) (subst (λ n. t.count ≤ n) (sym capacity) old.room.waiting) old.room.written old

module _ {S : Type 0} (place_of : S → RawPlace) (content : S → Option (List ℕ)) (len_of faults : S → ℕ) (t : Request) (units : List (List ℕ)) (start now : Hand S) where
  abbrev AtIt : S → Type 0
  AtIt held = AtSeat t.shape (drive_of place_of held) (Takes place_of held) start now

  -- the same slots by place
  pub changed-placed : (p : PartialGroup S) (held slot : S) → place_of slot ≡ place_of held → HasPlaced place_of content len_of faults t units p (slots_with p held) start now
      → HasPlaced place_of content len_of faults t units p (slots_with p slot) start now
  changed-placed p held slot same placed = record {
    written = placed.written;
    waiting = placed.waiting;
    empty = placed.empty;
    failures = placed.failures;
    others = λ e of out. placed.others e of (ap (λ xs. is_in xs e) (sym (drives-as place_of p.written.items (reverse p.waiting.items) slot held same)) ∙ out);
    account = λ e many of holds.
        subst (λ n. Holds t.shape e (many + n) now) (sym (count-as place_of e p.written.items (reverse p.waiting.items) slot held same)) (placed.account e many of holds);
  }

  all-written-push : (slots : List S) (slot : S) → IsWritten place_of content len_of t.shape (unit_at units (length slots)) start now slot
      → AreWritten place_of content len_of t.shape units start now slots → AreWritten place_of content len_of t.shape units start now (slots ++ slot ∷ [])
  all-written-push slots slot this all k default within = elim (cases_lt k (length slots)) [
    | inl before ↦
        subst (IsWritten place_of content len_of t.shape (unit_at units k) start now) (sym (get_or_append_left slots (slot ∷ []) default k before)) (all k default before)
    | inr last ↦
        let long = length_push slots slot in
        let at : length slots ≡ k = omega (arith, last, within, long) in
        subst (IsWritten place_of content len_of t.shape (unit_at units k) start now) (sym (get_or_push slots slot default k at))
        (subst (λ n. IsWritten place_of content len_of t.shape (unit_at units n) start now slot) at this)
  ]

  -- one slot more is written
  pub written-placed : (p q : PartialGroup S) (held slot drawn : S) → place_of slot ≡ place_of held → place_of held ≡ place_of drawn → IsPlaceOf t.shape (place_from (place_of held))
      → q.written.items ≡ p.written.items ++ slot ∷ []
      → HoldsBytes (content slot) (unit_at units (length p.written.items)) → StaysTold (content drawn) (content slot) → len_of slot ≡ length (unit_at units (length p.written.items))
      → AtIt drawn → HasPlaced place_of content len_of faults t units p (slots_with p held) start now
      → HasPlaced place_of content len_of faults t units (record q { search = p.search; waiting = p.waiting; failed = p.failed }) (q.written.items ++ reverse p.waiting.items) start now
  written-placed p q held slot drawn same was place is holds told long at placed =
      let changed = changed-placed p held slot same placed in
      let slots : q.written.items ++ reverse p.waiting.items ≡ slots_with p slot = ap (λ xs. xs ++ reverse p.waiting.items) is ∙ append_assoc p.written.items (slot ∷ []) (reverse p.waiting.items) in
      record {
        written = subst (AreWritten place_of content len_of t.shape units start now) (sym is)
            (all-written-push p.written.items slot (record {
              drawn = drawn;
              place = same ∙ was;
              of_shape = subst (λ x. IsPlaceOf t.shape (place_from x)) (sym same) place;
              taken = at;
              holds = holds;
              told = told;
              len = long;
            }) placed.written);
        waiting = placed.waiting;
        empty = placed.empty;
        failures = placed.failures;
        others = λ e of out. changed.others e of (ap (λ xs. is_in (drives_of_all place_of xs) e) (sym slots) ∙ out);
        account = λ e many of holds. subst (λ xs. Holds t.shape e (many + count_on place_of e xs) now) (sym slots) (changed.account e many of holds);
      }

  -- the next slot is taken out of its place
  module _ (p q : PartialGroup S) (held : S) (is : p.waiting.items ≡ q.waiting.items ++ held ∷ []) (placed : HasPlaced place_of content len_of faults t units p (slots_of p) start now) where
    all_wait : All AtIt (held ∷ reverse q.waiting.items)
    all_wait = subst (All AtIt) (ap reverse is ∙ reverse-append q.waiting.items (held ∷ [])) placed.waiting

    popped-at : AtIt held
    popped-at = All-head AtIt held (reverse q.waiting.items) all_wait

    popped-placed : HasPlaced place_of content len_of faults t units (record q { search = p.search; written = p.written; failed = p.failed }) (p.written.items ++ held ∷ reverse q.waiting.items) start now
    popped-placed =
        let slots = popped place_of t p q held is in
        record {
          written = placed.written;
          waiting = All-tail AtIt held (reverse q.waiting.items) all_wait;
          empty = placed.empty;
          failures = placed.failures;
          others = λ e of out. placed.others e of (ap (λ xs. is_in (drives_of_all place_of xs) e) slots ∙ out);
          account = λ e many of holds. subst (λ xs. Holds t.shape e (many + count_on place_of e xs) now) slots (placed.account e many of holds);
        }

    -- what its write asks for
    pub popped-both : AtIt held
        × HasPlaced place_of content len_of faults t units (record q { search = p.search; written = p.written; failed = p.failed }) (p.written.items ++ held ∷ reverse q.waiting.items) start now
    popped-both = (popped-at, popped-placed)

  -- no slot was taken out
  pub stayed-placed : (p q : PartialGroup S) → q.waiting.items ≡ p.waiting.items → HasPlaced place_of content len_of faults t units p (slots_of p) start now
      → HasPlaced place_of content len_of faults t units (record q { search = p.search; written = p.written; failed = p.failed }) (p.written.items ++ reverse q.waiting.items) start now
  stayed-placed p q same placed =
      let slots : p.written.items ++ reverse q.waiting.items ≡ slots_of p = ap (λ xs. p.written.items ++ reverse xs) same in
      record {
        written = placed.written;
        waiting = subst (λ xs. All AtIt (reverse xs)) (sym same) placed.waiting;
        empty = placed.empty;
        failures = placed.failures;
        others = λ e of out. placed.others e of (ap (λ xs. is_in (drives_of_all place_of xs) e) (sym slots) ∙ out);
        account = λ e many of holds. subst (λ xs. Holds t.shape e (many + count_on place_of e xs) now) (sym slots) (placed.account e many of holds);
      }
