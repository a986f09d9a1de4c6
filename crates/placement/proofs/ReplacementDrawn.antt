-- What the hand did, once a slot came in place of one that failed, or none did.
use Rattle.std.proofs.Common.{◌≡◌, ℕ, ◌+◌, inl, inr, Bool, true, false, ◌||◌, List, [], ◌∷◌, ◌++◌, reverse, refl, sym, ap, subst, ◌∙◌, arith}
use Rattle.std.specs.Prelude.{Option}
use Rattle.std.specs.List.{All}
use Rattle.std.proofs.lemmas.Bool.{or_cases, or_from, or_left, or_parts, or_right}
use Rattle.std.proofs.lemmas.List.{map-append, reverse-append}
use Rattle.std.proofs.lemmas.List.Elements.{All-cons, All-head, All-nil}
use Rattle.domains.specs.Shape.{is_of}
use Rattle.domains.specs.Drive.{Drive, same_drive, is_in}
use Rattle.domains.specs.DriveSet.{has}
use Rattle.flex_io.specs.declared.raw_place.RawPlace.{RawPlace}
use Rattle.held_slots.specs.Slots.{count_on, drive_of, place_from}
use Rattle.domains.specs.Place.{IsPlaceOf}
use Rattle.fabric.specs.Accounts.{Holds}
use Rattle.fabric.specs.Cells.{FabricView}
use Rattle.fabric.specs.PoolTurns.{Takes}
use Rattle.fabric.specs.declared.hand.Hand.{Hand}
use Rattle.slot_search.specs.HandSeats.{AtSeat, FoundEmpty, drives_at, drives_of_all}
use Rattle.placement_order.specs.Order.{visits_of}
use Rattle.placement.specs.PlacedGroups.{AreWritten, FailedAndRetired, drives_in, spent_by}
use Rattle.slot_search.specs.Searches.{HasTried, IsBefore, KeepsSearch, is_closed, request_of}
use Rattle.placement.specs.PartialGroups.{HasPlaced, IsInOrder, slots_of}
use Rattle.placement.specs.declared.partial_group.PartialGroup.{PartialGroup}
use Rattle.slot_search.specs.declared.search.Search.{Search}
use Rattle.slot_search.specs.declared.request.Request.{Request}
use Rattle.placement.proofs.SlotLists.{All-right}
use Rattle.placement_order.proofs.ApartDrives.{is_in-midst}
use Rattle.domains.proofs.DriveLemmas.{is_in-append}
use Rattle.placement.proofs.SlotRetired.{count_on-between}
use Rattle.placement.proofs.ReplacementOrder.{IsAfter, given-slots, none-slots, one_more}
use Rattle.placement.proofs.OtherSeats.{all-written-stay, failures-stay, waiting-stays}
use Rattle.slot_search.proofs.TriedDrives.{count_on-one}

module _ {S : Type 0} (place_of : S → RawPlace) (content : S → Option (List ℕ)) (len_of faults : S → ℕ) (f : FabricView) (t : Request) (p : PartialGroup S)
    (old : IsInOrder place_of t p (slots_of p)) (q : Search S) (hand mid : Hand S) (keeps : KeepsSearch place_of f (one_more t p) p.search q hand mid)
    (order : (before : List Drive) → IsBefore place_of (one_more t p) before (visits_of (request_of (one_more t p))) p.search → IsBefore place_of (one_more t p) before [] q)
    (units : List (List ℕ)) (start : Hand S) (placed : HasPlaced place_of content len_of faults t units p (slots_of p) start hand) where
  abbrev drives : List Drive
  drives = drives_of_all place_of (slots_of p)

  abbrev marked : Drive → Bool
  marked e = is_in drives e || is_in (drives_in p.failed.items) e

  group_closed : (e : Drive) → is_of t.shape e ≡ true → is_in drives e ≡ true → is_closed p.search e ≡ true
  group_closed e of there = or_left (has p.search.taken e) (has p.search.spent e) (old.taken e of ∙ or_right (has t.used e) _ there)

  failed_closed : (e : Drive) → is_of t.shape e ≡ true → is_in (drives_in p.failed.items) e ≡ true → is_closed p.search e ≡ true
  failed_closed e of there = or_right (has p.search.taken e) (has p.search.spent e) (old.spent e of ∙ or_left _ _ there)

  marked_closed : (e : Drive) → is_of t.shape e ≡ true → marked e ≡ true → is_closed p.search e ≡ true
  marked_closed e of there = elim (or_cases (is_in drives e) (is_in (drives_in p.failed.items) e) there) [
    | inl group ↦ group_closed e of group
    | inr failed ↦ failed_closed e of failed
  ]

  came : HasTried place_of marked t.shape q.slots.items q.empty.items start mid
  came = keeps.came marked marked_closed start
      (subst (λ xs. HasTried place_of marked t.shape xs p.search.empty.items start hand) (sym old.none) (record {
        taken = All-nil (λ held. AtSeat t.shape (drive_of place_of held) (Takes place_of held) start hand);
        empty = placed.empty;
        others = λ e of plain out none.
            let parts = or_parts (is_in drives e) (is_in (drives_in p.failed.items) e) plain in
            placed.others e of parts.0 (or_from (is_in (drives_in p.failed.items) e) _ parts.1 none);
      }))

  in_group : (xs ys : List S) (e : Drive) → slots_of p ≡ xs ++ ys → (is_in (drives_of_all place_of xs) e || is_in (drives_of_all place_of ys) e) ≡ true → is_in drives e ≡ true
  in_group xs ys e is there =
      ap (λ zs. is_in (drives_of_all place_of zs) e) is ∙ ap (λ zs. is_in zs e) (map-append (drive_of place_of) xs ys)
      ∙ is_in-append (drives_of_all place_of xs) (drives_of_all place_of ys) e ∙ there

  still_waiting : All (λ held. AtSeat t.shape (drive_of place_of held) (Takes place_of held) start mid) (reverse p.waiting.items)
  still_waiting =
      waiting-stays place_of t.shape start hand mid (reverse p.waiting.items)
      (All-right (λ x. IsPlaceOf t.shape (place_from (place_of x))) p.written.items (reverse p.waiting.items) old.places)
      (λ e of there. (keeps.same e of (group_closed e of (in_group p.written.items (reverse p.waiting.items) e refl (or_right _ _ there)))).1) placed.waiting

  -- the slots are those that were, and those that came
  record HasCome (new : PartialGroup S) : Type 0 where
    pub out : (e : Drive) → is_in (drives_of_all place_of (slots_of new)) e ≡ false → (is_in drives e ≡ false) × (is_in (drives_of_all place_of q.slots.items) e ≡ false)
    pub count : (e : Drive) → count_on place_of e (slots_of new) ≡ count_on place_of e (slots_of p) + count_on place_of e q.slots.items
    pub waiting : All (λ held. AtSeat t.shape (drive_of place_of held) (Takes place_of held) start mid) (reverse new.waiting.items)

  come : (new : PartialGroup S) → IsAfter place_of f t p old q hand mid keeps order new → HasCome new → HasPlaced place_of content len_of faults t units new (slots_of new) start mid
  come new after is = record {
    written = subst (λ (w : _). AreWritten place_of content len_of t.shape units start mid w.items) (sym after.written)
        (all-written-stay place_of t.shape start hand mid content len_of units p.written.items
        (λ e of there. (keeps.same e of (group_closed e of (in_group p.written.items (reverse p.waiting.items) e refl (or_left _ _ there)))).1) placed.written);
    waiting = is.waiting;
    empty = subst (λ (x : _). FoundEmpty place_of t.shape x.items start mid) (sym after.empty) came.empty;
    failures = subst (λ (x : _). FailedAndRetired place_of faults t.shape x.items start mid) (sym after.failed)
        (failures-stay place_of t.shape start hand mid faults p.failed.items (λ e of there. (keeps.same e of (failed_closed e of there)).1) keeps.yard placed.failures);
    others = λ e of out unspent.
        let away = is.out e out in
        let parts = or_parts (is_in (drives_in p.failed.items) e) (is_in (drives_at q.empty.items) e)
        (ap (λ (x : _). spent_by p.failed.items x.items e) (sym after.empty) ∙ ap (λ (x : _). spent_by x.items new.search.empty.items e) (sym after.failed) ∙ unspent) in
        came.others e of (or_from (is_in drives e) _ away.0 parts.0) away.1 parts.1;
    account = λ e many of holds.
        let none : count_on place_of e p.search.slots.items ≡ 0 = ap (count_on place_of e) old.none in
        let count = is.count e in
        let sum : many + count_on place_of e (slots_of p) ≡ (many + count_on place_of e (slots_of p)) + count_on place_of e p.search.slots.items = omega (arith, none) in
        let all : (many + count_on place_of e (slots_of p)) + count_on place_of e q.slots.items ≡ many + count_on place_of e (slots_of new) = omega (arith, count) in
        subst (λ n. Holds t.shape e n mid) all
        (keeps.account e (many + count_on place_of e (slots_of p)) of (subst (λ n. Holds t.shape e n hand) sum (placed.account e many of holds)));
  }

  -- none came
  pub none-placed : (new : PartialGroup S) → IsAfter place_of f t p old q hand mid keeps order new → q.slots.items ≡ [] → new.waiting ≡ p.waiting
      → HasPlaced place_of content len_of faults t units new (slots_of new) start mid
  none-placed new after none waiting =
      let same = none-slots place_of f t p old q hand mid keeps order none new after waiting in
      come new after (record {
        out = λ e out. (ap (λ xs. is_in (drives_of_all place_of xs) e) (sym same) ∙ out, ap (λ xs. is_in (drives_of_all place_of xs) e) none);
        count = λ e.
            let one = ap (count_on place_of e) same in
            let two : count_on place_of e q.slots.items ≡ 0 = ap (count_on place_of e) none in
            omega (arith, one, two);
        waiting = subst (λ (x : _). All (λ held. AtSeat t.shape (drive_of place_of held) (Takes place_of held) start mid) (reverse x.items)) (sym waiting) still_waiting;
      })

  -- one came
  pub given-placed : (new : PartialGroup S) (x : S) → IsAfter place_of f t p old q hand mid keeps order new → q.slots.items ≡ x ∷ [] → new.waiting.items ≡ p.waiting.items ++ x ∷ []
      → HasPlaced place_of content len_of faults t units new (slots_of new) start mid
  given-placed new x after given waiting =
      let turned : reverse new.waiting.items ≡ x ∷ reverse p.waiting.items = ap reverse waiting ∙ reverse-append p.waiting.items (x ∷ []) in
      let slots = given-slots place_of f t p old q hand mid keeps order x given new after waiting in
      come new after (record {
        out = λ e out.
            let parts = or_parts _ (same_drive (drive_of place_of x) e)
            (sym (is_in-midst (drives_of_all place_of p.written.items) (drives_of_all place_of (reverse p.waiting.items)) (drive_of place_of x) e)
            ∙ ap (λ xs. is_in xs e) (sym (map-append (drive_of place_of) p.written.items (x ∷ reverse p.waiting.items)))
            ∙ ap (λ xs. is_in (drives_of_all place_of xs) e) (sym slots) ∙ out) in (
              ap (λ xs. is_in xs e) (map-append (drive_of place_of) p.written.items (reverse p.waiting.items)) ∙ parts.0,
              ap (λ xs. is_in (drives_of_all place_of xs) e) given ∙ is_in-midst [] [] (drive_of place_of x) e ∙ parts.1,
            );
        count = λ e.
            let all = ap (count_on place_of e) slots in
            let more = count_on-between place_of e p.written.items (reverse p.waiting.items) x in
            let one = ap (count_on place_of e) given ∙ count_on-one place_of e [] x in
            omega (arith, all, more, one);
        waiting = subst (All (λ held. AtSeat t.shape (drive_of place_of held) (Takes place_of held) start mid)) (sym turned)
            (All-cons (λ held. AtSeat t.shape (drive_of place_of held) (Takes place_of held) start mid) x (reverse p.waiting.items)
            (All-head (λ held. AtSeat t.shape (drive_of place_of held) (Takes place_of held) start mid) x []
            (subst (All (λ held. AtSeat t.shape (drive_of place_of held) (Takes place_of held) start mid)) given came.taken)) still_waiting);
      })
