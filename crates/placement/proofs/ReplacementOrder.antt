-- A slot comes in place of one that failed.
use Rattle.std.proofs.Common.{◌≡◌, ℕ, ◌+◌, ◌*◌, ◌<◌, ◌≤◌, ◌⊎◌, inl, inr, Bool, true, false, cond, not, ◌||◌, List, [], ◌∷◌, ◌++◌, length, take, reverse, count_by, eqb, refl, sym, ap, subst, ◌∙◌, arith}
use Rattle.std.specs.Prelude.{vec_capacity}
use Rattle.std.specs.List.{All}
use Rattle.std.proofs.lemmas.Bool.{and_parts, both_ways, cases_Bool, eq-eqb, false_from_ne_true, not-true, or_from, or_left, or_parts, or_cases, or_right}
use Rattle.std.proofs.lemmas.List.Elements.{All-head}
use Rattle.std.proofs.lemmas.List.{length-append, length-map, map-append, reverse-append, take_all}
use Rattle.domains.specs.Shape.{is_of}
use Rattle.domains.specs.Drive.{Drive, same_drive, is_in}
use Rattle.domains.specs.DriveSet.{has}
use Rattle.domains.specs.Room.{drives_on}
use Rattle.flex_io.specs.declared.raw_place.RawPlace.{RawPlace}
use Rattle.held_slots.specs.Slots.{drive_of, place_from}
use Rattle.domains.specs.Place.{IsPlaceOf}
use Rattle.domains.proofs.ShapeLemmas.{is_of-within}
use Rattle.fabric.specs.Cells.{FabricView}
use Rattle.fabric.specs.declared.hand.Hand.{Hand}
use Rattle.placement_order.specs.OrderLaws.{MayBeTried, NoneIsLeft, MayGive}
use Rattle.slot_search.specs.HandSeats.{drives_at, drives_of_all}
use Rattle.placement_order.specs.Order.{DrawRequest, drawn_in, order_of, units_on, visits_of}
use Rattle.placement_order.specs.PassedDrives.{passed_in}
use Rattle.placement.specs.PlacedGroups.{drives_in, spent_by}
use Rattle.slot_search.specs.Searches.{IsBefore, KeepsSearch, MayBeSpent, request_of, without_barred}
use Rattle.placement_order.specs.Room.{marked_up_to}
use Rattle.placement.specs.PartialGroups.{IsInOrder, slots_of}
use Rattle.placement.specs.declared.partial_group.PartialGroup.{PartialGroup}
use Rattle.slot_search.specs.declared.search.Search.{Search}
use Rattle.slot_search.specs.declared.request.Request.{Request}
use Rattle.placement_order.proofs.OrderMembers.{order-may_give, take-may_give}
use Rattle.slot_search.proofs.SearchEnd.{is_of-drawn, order-unbarred, take-short}
use Rattle.placement.proofs.SlotLists.{All-with}
use Rattle.placement_order.proofs.GroupChanges.{MayGive-again, MayGive-more, count_by-midst, is_left-from, is_left-parts}
use Rattle.placement_order.proofs.ApartDrives.{is_in-midst}
use Rattle.domains.proofs.CountLemmas.{count_by-cons}
use Rattle.domains.proofs.DriveLemmas.{is_in-append, is_in-first, same_drive-eq}
use Rattle.domains.specs.Counts.{one_if}
use Rattle.placement_order.proofs.OrderComplete.{order-complete}
use Rattle.placement_order.proofs.PassedVisits.{passed_in-each}
use Rattle.placement_order.proofs.PrefixDrives.{prefixes-keep, replacements-of}

absorbed : (a b c : Bool) → (b ≡ true → c ≡ true) → ((a || b) || c) ≡ (a || c)
absorbed true b c more = refl
absorbed false true c more = sym (more refl)
absorbed false false c more = refl

or_false : (a : Bool) → (a || false) ≡ a
or_false true = refl
or_false false = refl

or_grouped : (a b c : Bool) → ((a || b) || cond c true false) ≡ (a || (b || c))
or_grouped true b c = refl
or_grouped false true c = refl
or_grouped false false true = refl
or_grouped false false false = refl

-- the request of a draw in place of a slot that failed
abbrev pub one_more : {S : Type 0} → Request → PartialGroup S → Request
one_more t p = record t { used = p.search.taken; barred = p.search.spent; count = 1 }

module _ {S : Type 0} (place_of : S → RawPlace) (f : FabricView) (t : Request) (p : PartialGroup S) (old : IsInOrder place_of t p (slots_of p))
    (q : Search S) (hand mid : Hand S) (keeps : KeepsSearch place_of f (one_more t p) p.search q hand mid)
    (order : (before : List Drive) → IsBefore place_of (one_more t p) before (visits_of (request_of (one_more t p))) p.search → IsBefore place_of (one_more t p) before [] q) where
  abbrev pub drives : List Drive
  drives = drives_of_all place_of (slots_of p)

  -- those of the slots that are written, and of those that wait
  abbrev pub ahead : List Drive
  ahead = drives_of_all place_of p.written.items

  abbrev pub behind : List Drive
  behind = drives_of_all place_of (reverse p.waiting.items)

  pub drives_are : drives ≡ ahead ++ behind
  drives_are = map-append (drive_of place_of) p.written.items (reverse p.waiting.items)

  abbrev pub spent : Drive → Bool
  spent = spent_by p.failed.items q.empty.items

  pub still_found : (e : Drive) → is_in (drives_at p.search.empty.items) e ≡ true → is_in (drives_at q.empty.items) e ≡ true
  still_found e there =
      ap (λ xs. is_in (drives_at xs) e) keeps.found.1
      ∙ ap (λ xs. is_in xs e) (map-append (λ (x : _). x.drive) p.search.empty.items keeps.found.0)
      ∙ is_in-append (drives_at p.search.empty.items) (drives_at keeps.found.0) e
      ∙ or_left _ _ there

  pub spent_is : (e : Drive) → is_of t.shape e ≡ true → has q.spent e ≡ spent e
  spent_is e of =
      keeps.search.spent e of ∙ ap (λ b. b || is_in (drives_at q.empty.items) e) (old.spent e of)
      ∙ absorbed (is_in (drives_in p.failed.items) e) (is_in (drives_at p.search.empty.items) e) (is_in (drives_at q.empty.items) e) (still_found e)

  may_be : MayBeSpent place_of (one_more t p) q spent
  may_be = record {
    closed = λ e of gone. sym (spent_is e of) ∙ gone;
    drawn = λ e there. let of = is_of-drawn place_of t.shape q.slots.items e keeps.search.places there in sym (spent_is e of) ∙ keeps.search.apart e of there;
  }

  still_spent : (e : Drive) → spent_by p.failed.items p.search.empty.items e ≡ true → spent e ≡ true
  still_spent e was = elim (or_cases (is_in (drives_in p.failed.items) e) (is_in (drives_at p.search.empty.items) e) was) [
    | inl failed ↦ or_left _ (is_in (drives_at q.empty.items) e) failed
    | inr found ↦ or_right (is_in (drives_in p.failed.items) e) _ (still_found e found)
  ]

  begun : IsBefore place_of (one_more t p) (drives_at p.search.empty.items) (visits_of (request_of (one_more t p))) p.search
  begun other may =
      let s : DrawRequest = without_barred (one_more t p) in (
        ap (λ xs. take 1 (drawn_in (visits_of s) s other (drives_of_all place_of xs))) (sym old.none),
        ap (λ xs. passed_in (visits_of s) s other 1 (drives_of_all place_of xs) (drives_at p.search.empty.items)) (sym old.none),
      )

  -- the search drew the first drive of the order
  pub first_drawn : take 1 (order_of (without_barred (one_more t p)) spent) ≡ drives_of_all place_of q.slots.items
  first_drawn =
      let few = keeps.search.few in
      let long = length-map q.slots.items (drive_of place_of) in
      (order (drives_at p.search.empty.items) begun spent may_be).0
      ∙ take_all 1 (drives_of_all place_of q.slots.items) (omega (arith, few, long))

  -- and found empty those that it passed over
  pub found_passed : passed_in (visits_of (without_barred (one_more t p))) (without_barred (one_more t p)) spent 1 [] (drives_at p.search.empty.items) ≡ drives_at q.empty.items
  found_passed = (order (drives_at p.search.empty.items) begun spent may_be).1

  first : take 1 (order_of (request_of (one_more t p)) spent) ≡ drives_of_all place_of q.slots.items
  first = sym (order-unbarred (one_more t p) spent (λ e of gone. still_spent e (sym (old.spent e of) ∙ gone)) 1) ∙ first_drawn

  -- no drive whose slot failed is found empty
  pub failed_apart : (e : Drive) → is_in (drives_in p.failed.items) e ≡ true → is_in (drives_at q.empty.items) e ≡ false
  failed_apart e failed =
      let searched : DrawRequest = without_barred (one_more t p) in
      let barred : has p.search.spent e ≡ true = old.spent e (old.failed_tried.of_shape e failed) ∙ or_left (is_in (drives_in p.failed.items) e) _ failed in
      false_from_ne_true _ (λ found.
      elim (passed_in-each searched spent (λ d. (is_in (drives_at p.search.empty.items) d ≡ true) ⊎ (searched.usable d ≡ true))
      (λ d free. inr (and_parts (searched.usable d) (not (has p.search.taken d)) free).0) (visits_of searched) 1 [] (drives_at p.search.empty.items) (λ d there. inl there) e
      (ap (λ xs. is_in xs e) found_passed ∙ found)) [
        | inl before ↦ both_ways _ (old.apart e failed) before
        | inr usable ↦ both_ways _ (not-true (has p.search.spent e) (and_parts ((request_of t).usable e) (not (has p.search.spent e)) usable).1) barred
      ])

  -- a drive that is not taken is neither used nor one of the group
  apart : (e : Drive) → is_of t.shape e ≡ true → has p.search.taken e ≡ false → (has t.used e ≡ false) × (is_in drives e ≡ false)
  apart e of untaken = or_parts (has t.used e) (is_in drives e) (sym (old.taken e of) ∙ untaken)

  pub unspent : (e : Drive) → is_in drives e ≡ true → spent e ≡ false
  unspent e there =
      let of = old.may.of_shape e there in
      let was = (is_left-parts (request_of t) (spent_by p.failed.items p.search.empty.items) e (old.may.left e there)).2 in
      or_from (is_in (drives_in p.failed.items) e) (is_in (drives_at q.empty.items) e) (or_parts (is_in (drives_in p.failed.items) e) _ was).0
      (false_from_ne_true _ (λ found. both_ways _ (apart e of (keeps.search.tried.unused e found)).1 there))

  pub may_still : MayGive (request_of t) spent drives
  may_still = MayGive-again (request_of t) (spent_by p.failed.items p.search.empty.items) spent drives unspent old.may

  abbrev IsFirst : Drive → Type 0
  IsFirst e = is_in (take t.count (order_of (request_of t) spent)) e ≡ true

  -- the group's drives are still among the first
  pub still_first : (e : Drive) → is_in drives e ≡ true → IsFirst e
  still_first e there =
      prefixes-keep (request_of t) (spent_by p.failed.items p.search.empty.items) spent still_spent t.count e (unspent e there) (old.first e there)

  pub found_tried : MayBeTried (request_of t) (drives_at q.empty.items)
  found_tried = record {
    of_shape = keeps.search.tried.of_shape;
    usable = keeps.search.tried.usable;
    unused = λ e there. (apart e (keeps.search.tried.of_shape e there) (keeps.search.tried.unused e there)).0;
    apart = keeps.search.tried.apart;
  }

  pub counted_still : length q.empty.items + length p.failed.items ≤ marked_up_to t.shape.nodes t.shape.drives (has q.spent)
  counted_still = let before = old.counted in let more = keeps.counted in omega (arith, before, more)

  -- the search goes behind to its place, without its slot
  pub record IsAfter (new : PartialGroup S) : Type 0 where
    pub taken : new.search.taken ≡ q.taken
    pub spent_same : new.search.spent ≡ q.spent
    pub empty : new.search.empty ≡ q.empty
    pub none : new.search.slots.items ≡ []
    pub capacity : vec_capacity new.search.slots ≡ vec_capacity q.slots
    pub written : new.written ≡ p.written
    pub failed : new.failed ≡ p.failed

  spent_in : (new : PartialGroup S) → IsAfter new → (e : Drive) → spent_by new.failed.items new.search.empty.items e ≡ spent e
  spent_in new after e =
      ap (λ (x : _). spent_by x.items new.search.empty.items e) after.failed ∙ ap (λ (x : _). spent_by p.failed.items x.items e) after.empty

  -- the group is in order once its slots, the set of its drives, and how many stand on each node are told
  in_order : (new : PartialGroup S) → IsAfter new → t.count ≤ vec_capacity new.waiting → (now : List Drive) → drives_of_all place_of (slots_of new) ≡ now
      → All (λ held. IsPlaceOf t.shape (place_from (place_of held))) (slots_of new) → length (slots_of new) ≤ t.count
      → ((e : Drive) → is_of t.shape e ≡ true → has q.taken e ≡ (has t.used e || is_in now e))
      → ((node : ℕ) → 1 ≤ node → node ≤ t.shape.nodes → drives_on t.shape.drives node (has q.taken) ≡ units_on (request_of t) now node)
      → MayGive (request_of t) spent now → ((e : Drive) → is_in now e ≡ true → IsFirst e) → IsInOrder place_of t new (slots_of new)
  in_order new after waiting now now_is places few taken units may among = record {
    cluster = old.cluster;
    none = after.none;
    places = places;
    taken = λ e of. ap (λ x. has x e) after.taken ∙ taken e of ∙ ap (λ xs. has t.used e || is_in xs e) (sym now_is);
    spent = λ e of. ap (λ x. has x e) after.spent_same ∙ spent_is e of ∙ sym (spent_in new after e);
    units = λ node one within.
        ap (λ x. drives_on t.shape.drives node (has x)) after.taken ∙ units node one within ∙ ap (λ xs. units_on (request_of t) xs node) (sym now_is);
    may = subst (MayGive (request_of t) (spent_by new.failed.items new.search.empty.items)) (sym now_is)
        (MayGive-again (request_of t) spent (spent_by new.failed.items new.search.empty.items) now
        (λ e there. spent_in new after e ∙ (is_left-parts (request_of t) spent e (may.left e there)).2) may);
    empty_tried = subst (λ (x : _). MayBeTried (request_of t) (drives_at x.items)) (sym after.empty) found_tried;
    failed_tried = subst (λ (x : _). MayBeTried (request_of t) (drives_in x.items)) (sym after.failed) old.failed_tried;
    first = λ e there.
        subst (λ (x : _). is_in (take t.count (order_of (request_of t) (spent_by x.items new.search.empty.items))) e ≡ true) (sym after.failed)
        (subst (λ (x : _). is_in (take t.count (order_of (request_of t) (spent_by p.failed.items x.items))) e ≡ true) (sym after.empty)
        (among e (ap (λ xs. is_in xs e) (sym now_is) ∙ there)));
    apart = λ e there.
        ap (λ (x : _). is_in (drives_at x.items) e) after.empty ∙ failed_apart e (ap (λ (x : _). is_in (drives_in x.items) e) (sym after.failed) ∙ there);
    counted =
        let same : length new.failed.items ≡ length p.failed.items = ap (λ (x : _). length x.items) after.failed in
        let long : length new.search.empty.items ≡ length q.empty.items = ap (λ (x : _). length x.items) after.empty in
        let marked : marked_up_to t.shape.nodes t.shape.drives (has new.search.spent) ≡ marked_up_to t.shape.nodes t.shape.drives (has q.spent)
        = ap (λ x. marked_up_to t.shape.nodes t.shape.drives (has x)) after.spent_same in
        let counted = counted_still in
        omega (arith, same, long, marked, counted);
    few = few;
    room = record {
      slots = λ some. let room = keeps.search.room in let same = after.capacity in omega (arith, room, same);
      waiting = waiting;
      written = subst (λ (x : _). t.count ≤ vec_capacity x) (sym after.written) old.room.written;
      empty = subst (λ (x : _). t.shape.nodes * t.shape.drives ≤ vec_capacity x) (sym after.empty) keeps.search.space;
      failed = subst (λ (x : _). t.shape.nodes * t.shape.drives ≤ vec_capacity x) (sym after.failed) old.room.failed;
    };
  }

  -- no drive gave a slot
  module _ (none : q.slots.items ≡ []) where
    no_order : order_of (request_of (one_more t p)) spent ≡ []
    no_order = take-short 1 (order_of (request_of (one_more t p)) spent) [] (first ∙ ap (drives_of_all place_of) none) (omega arith)

    pub none_left : NoneIsLeft (request_of t) spent drives
    none_left d of left = elim (cases_Bool (is_in drives d)) [
      | inl there ↦ inl there
      | inr out ↦
          let parts = is_left-parts (request_of t) spent d left in
          let untaken : has p.search.taken d ≡ false = old.taken d of ∙ or_from (has t.used d) (is_in drives d) parts.1 out in
          elim (order-complete (request_of (one_more t p)) spent d of (is_left-from (request_of (one_more t p)) spent d parts.0 untaken parts.2)) [
            | inl there ↦ absurd (both_ways false refl (ap (λ xs. is_in xs d) (sym no_order) ∙ there))
            | inr full ↦
                let within = is_of-within t.shape d of in
                let units = old.units d.node within.some_node within.nodes in
                let low = subst (λ xs. t.level.k ≤ units_on (request_of (one_more t p)) xs d.node) no_order full in
                inr (omega (arith, units, low))
          ]
    ]

    pub none-slots : (new : PartialGroup S) → IsAfter new → new.waiting ≡ p.waiting → slots_of new ≡ slots_of p
    none-slots new after waiting =
        ap (λ (x : _). x.items ++ reverse new.waiting.items) after.written ∙ ap (λ (x : _). p.written.items ++ reverse x.items) waiting

    pub none-in_order : (new : PartialGroup S) → IsAfter new → new.waiting ≡ p.waiting → IsInOrder place_of t new (slots_of new)
    none-in_order new after waiting =
        let same = none-slots new after waiting in
        in_order new after (subst (λ (x : _). t.count ≤ vec_capacity x) (sym waiting) old.room.waiting) drives (ap (drives_of_all place_of) same)
        (subst (All (λ held. IsPlaceOf t.shape (place_from (place_of held)))) (sym same) old.places)
        (subst (λ xs. length xs ≤ t.count) (sym same) old.few)
        (λ e of. keeps.search.taken e of ∙ ap (λ xs. has p.search.taken e || is_in (drives_of_all place_of xs) e) none ∙ or_false (has p.search.taken e) ∙ old.taken e of)
        (λ node one within.
        let before = old.units node one within in
        let now = keeps.search.units node one within ∙ ap (λ xs. units_on (request_of (one_more t p)) (drives_of_all place_of xs) node) none in
        omega (arith, before, now))
        may_still still_first

  -- a drive gave a slot
  module _ (x : S) (given : q.slots.items ≡ x ∷ []) where
    abbrev pub drive : Drive
    drive = drive_of place_of x

    drives_given : drives_of_all place_of q.slots.items ≡ drive ∷ []
    drives_given = ap (drives_of_all place_of) given

    may_one : MayGive (request_of (one_more t p)) spent (drive ∷ [])
    may_one = subst (MayGive (request_of (one_more t p)) spent) (first ∙ drives_given)
        (take-may_give (request_of (one_more t p)) spent 1 (order_of (request_of (one_more t p)) spent) (order-may_give (request_of (one_more t p)) spent))

    pub of_it : is_of t.shape drive ≡ true
    of_it = may_one.of_shape drive (is_in-first drive [])

    left : (((request_of t).usable drive) ≡ true) × (has p.search.taken drive ≡ false) × (spent drive ≡ false)
    left = is_left-parts (request_of (one_more t p)) spent drive (may_one.left drive (is_in-first drive []))

    -- it is a drive of its own
    pub alone : (has t.used drive ≡ false) × (is_in drives drive ≡ false)
    alone = apart drive of_it left.1

    is_first : length (slots_of p) < t.count → IsFirst drive
    is_first short =
        let long = length-map (slots_of p) (drive_of place_of) in
        replacements-of (request_of t) spent drives (has p.search.taken) may_still (λ e of. old.taken e of) t.count (omega (arith, short, long)) drive
        (ap (λ xs. is_in xs drive) (first ∙ drives_given) ∙ is_in-first drive [])

    count_one : (node : ℕ) → count_by (λ (d : Drive). eqb d.node node) (drive ∷ []) ≡ one_if (eqb drive.node node)
    count_one node = let one = count_by-cons (λ (d : Drive). eqb d.node node) drive [] in omega (arith, one)

    room : units_on (request_of t) drives drive.node < t.level.k
    room =
        let within = is_of-within t.shape drive of_it in
        let units = old.units drive.node within.some_node within.nodes in
        let spread = may_one.spread drive.node in
        let one = count_one drive.node in
        let is = ap one_if (eq-eqb drive.node drive.node refl) in
        omega (arith, units, spread, one, is)

    pub given-slots : (new : PartialGroup S) → IsAfter new → new.waiting.items ≡ p.waiting.items ++ x ∷ []
        → slots_of new ≡ p.written.items ++ x ∷ reverse p.waiting.items
    given-slots new after waiting =
        ap (λ (v : _). v.items ++ reverse new.waiting.items) after.written
        ∙ ap (λ xs. p.written.items ++ reverse xs) waiting
        ∙ ap (λ xs. p.written.items ++ xs) (reverse-append p.waiting.items (x ∷ []))

    pub given-drives : (new : PartialGroup S) → IsAfter new → new.waiting.items ≡ p.waiting.items ++ x ∷ []
        → drives_of_all place_of (slots_of new) ≡ ahead ++ drive ∷ behind
    given-drives new after waiting =
        ap (drives_of_all place_of) (given-slots new after waiting) ∙ map-append (drive_of place_of) p.written.items (x ∷ reverse p.waiting.items)

    pub given-in_order : (new : PartialGroup S) → IsAfter new → length (slots_of p) < t.count
        → new.waiting.items ≡ p.waiting.items ++ x ∷ [] → vec_capacity new.waiting ≡ vec_capacity p.waiting → IsInOrder place_of t new (slots_of new)
    given-in_order new after short waiting capacity =
        let slots = given-slots new after waiting in
        let now_is = given-drives new after waiting in
        let place = All-head (λ held. IsPlaceOf t.shape (place_from (place_of held))) x [] (subst (All (λ held. IsPlaceOf t.shape (place_from (place_of held)))) given keeps.search.places) in
        let long = length-append p.written.items (x ∷ reverse p.waiting.items) in
        let was = length-append p.written.items (reverse p.waiting.items) in
        in_order new after (subst (λ n. t.count ≤ n) (sym capacity) old.room.waiting) (ahead ++ drive ∷ behind) now_is
        (subst (All (λ held. IsPlaceOf t.shape (place_from (place_of held)))) (sym slots)
        (All-with (λ held. IsPlaceOf t.shape (place_from (place_of held))) p.written.items (reverse p.waiting.items) x place old.places))
        (subst (λ xs. length xs ≤ t.count) (sym slots) (omega (arith, short, long, was)))
        (λ e of.
        keeps.search.taken e of
        ∙ ap (λ xs. has p.search.taken e || is_in xs e) drives_given
        ∙ ap (λ b. b || is_in (drive ∷ []) e) (old.taken e of ∙ ap (λ xs. has t.used e || is_in xs e) drives_are)
        ∙ or_grouped (has t.used e) (is_in (ahead ++ behind) e) (same_drive drive e)
        ∙ ap (λ b. has t.used e || b) (sym (is_in-midst ahead behind drive e)))
        (λ node one within.
        let before = old.units node one within ∙ ap (λ xs. units_on (request_of t) xs node) drives_are in
        let now = keeps.search.units node one within ∙ ap (λ xs. units_on (request_of (one_more t p)) xs node) drives_given in
        let single = count_one node in
        let all = count_by-midst (λ (d : Drive). eqb d.node node) ahead behind drive in
        omega (arith, before, now, single, all))
        (MayGive-more (request_of t) spent ahead behind drive (subst (MayGive (request_of t) spent) drives_are may_still) of_it
        (is_left-from (request_of t) spent drive left.0 alone.0 left.2) (ap (λ xs. is_in xs drive) (sym drives_are) ∙ alone.1)
        (subst (λ xs. units_on (request_of t) xs drive.node < t.level.k) drives_are room))
        (λ e there. elim (or_cases (is_in (ahead ++ behind) e) (same_drive drive e) (sym (is_in-midst ahead behind drive e) ∙ there)) [
          | inl before ↦ still_first e (ap (λ xs. is_in xs e) drives_are ∙ before)
          | inr here ↦ subst IsFirst (same_drive-eq drive e here) (is_first short)
        ])
