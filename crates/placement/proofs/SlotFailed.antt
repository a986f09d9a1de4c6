-- A slot that failed leaves its group.
use Rattle.std.proofs.Common.{◌≡◌, ℕ, ◌*◌, ◌<◌, ◌≤◌, inl, inr, Bool, true, false, not, ◌&&◌, ◌||◌, List, [], ◌∷◌, ◌++◌, length, reverse, eqb, refl, sym, ap, subst, ◌∙◌, arith}
use Rattle.std.specs.Prelude.{vec_capacity}
use Rattle.std.specs.List.{All}
use Rattle.std.proofs.lemmas.Bool.{and_from, cases_Bool, not_from_false, or_cases, or_from, or_left, or_parts, or_right}
use Rattle.std.proofs.lemmas.List.{length-append, length_push, map-append}
use Rattle.domains.specs.Shape.{is_of}
use Rattle.domains.specs.Drive.{Drive, same_drive, is_in}
use Rattle.domains.specs.Place.{IsPlaceOf, Place}
use Rattle.domains.specs.DriveSet.{has}
use Rattle.domains.specs.Room.{drives_on}
use Rattle.flex_io.specs.declared.raw_place.RawPlace.{RawPlace}
use Rattle.held_slots.specs.Slots.{drive_of, place_from}
use Rattle.domains.proofs.ShapeLemmas.{IsDrive-of}
use Rattle.placement_order.specs.OrderLaws.{MayBeTried, MayGive}
use Rattle.slot_search.specs.HandSeats.{drives_at, drives_of_all}
use Rattle.placement_order.specs.Order.{units_on}
use Rattle.placement_order.specs.Stages.{ComesTo}
use Rattle.placement_order.proofs.OrderMembers.{each_push}
use Rattle.placement.specs.PlacedGroups.{drives_in, spent_by}
use Rattle.slot_search.specs.Searches.{is_closed, request_of}
use Rattle.placement.specs.PartialGroups.{IsAtStage, IsBetweenStages, IsInOrder, NotesFailure, slots_of, slots_with}
use Rattle.placement.specs.declared.partial_group.PartialGroup.{PartialGroup}
use Rattle.slot_search.specs.declared.request.Request.{Request}
use Rattle.placement.proofs.SlotLists.{All-midst, All-without}
use Rattle.placement_order.proofs.GroupChanges.{MayGive-again, MayGive-less, count_by-midst, is_left-parts, is_out, MayBeTried-push}
use Rattle.placement_order.proofs.ApartDrives.{is_in-midst}
use Rattle.placement_order.proofs.MarkedDrives.{MarksOne, drives_on-marked, marked_up_to-few, marked_up_to-marked}
use Rattle.domains.proofs.DriveLemmas.{is_in-push, same_drive-eq, same_drive-self, same_drive-sym}
use Rattle.slot_search.proofs.TriedDrives.{is_other}
use Rattle.placement_order.proofs.PrefixDrives.{prefixes-keep}

-- a drive's word is taken off beside others
off : (same used there : Bool) → (same ≡ true → (used ≡ false) × (there ≡ false)) → (not same && (used || (there || same))) ≡ (used || there)
off true used there none = sym (or_from used there (none refl).0 (none refl).1)
off false true there none = refl
off false false true none = refl
off false false false none = refl

on_again : (same kept : Bool) (was : Bool) → (same ≡ true → was ≡ true) → kept ≡ (not same && was) → was ≡ (same || kept)
on_again true kept was here is = here refl
on_again false kept was here is = sym is

joined : (same a b : Bool) → (same || (a || b)) ≡ ((a || same) || b)
joined true true b = refl
joined true false b = refl
joined false true b = refl
joined false false b = refl

module _ {S : Type 0} (place_of : S → RawPlace) (t : Request) (p new : PartialGroup S) (held : S) (old : IsInOrder place_of t p (slots_with p held)) where
  abbrev pub gone : Drive
  gone = drive_of place_of held

  pub gone-place : IsPlaceOf t.shape (place_from (place_of held))
  gone-place = All-midst (λ x. IsPlaceOf t.shape (place_from (place_of x))) p.written.items (reverse p.waiting.items) held old.places

  abbrev pub before : List Drive
  before = drives_of_all place_of p.written.items

  abbrev pub after : List Drive
  after = drives_of_all place_of (reverse p.waiting.items)

  pub with_it : drives_of_all place_of (slots_with p held) ≡ before ++ gone ∷ after
  with_it = map-append (drive_of place_of) p.written.items (held ∷ reverse p.waiting.items)

  without_it : drives_of_all place_of (slots_of p) ≡ before ++ after
  without_it = map-append (drive_of place_of) p.written.items (reverse p.waiting.items)

  may_with : MayGive (request_of t) (spent_by p.failed.items p.search.empty.items) (before ++ gone ∷ after)
  may_with = subst (MayGive (request_of t) (spent_by p.failed.items p.search.empty.items)) with_it old.may

  in_group : is_in (before ++ gone ∷ after) gone ≡ true
  in_group = is_in-midst before after gone gone ∙ or_right _ _ (same_drive-self gone)

  pub gone-of : is_of t.shape gone ≡ true
  gone-of = may_with.of_shape gone in_group

  was : ((request_of t).usable gone ≡ true) × (has t.used gone ≡ false) × (spent_by p.failed.items p.search.empty.items gone ≡ false)
  was = is_left-parts (request_of t) (spent_by p.failed.items p.search.empty.items) gone (may_with.left gone in_group)

  pub gone-apart : is_in (before ++ after) gone ≡ false
  gone-apart = is_out (request_of t) (spent_by p.failed.items p.search.empty.items) before after gone may_with

  unspent : has p.search.spent gone ≡ false
  unspent = old.spent gone gone-of ∙ was.2

  -- there is room to note the failure
  pub room_for_failure : length p.failed.items < vec_capacity p.failed
  room_for_failure =
      let counted = old.counted in
      let space = old.room.failed in
      let few = marked_up_to-few t.shape gone (has p.search.spent) gone-of unspent in
      omega (arith, counted, space, few)

  module _ (is : NotesFailure (place_from (place_of held)) p new) where
    -- a drive that was closed stays so: one that is no longer taken is spent
    pub closed_still : (e : Drive) → is_of t.shape e ≡ true → is_closed p.search e ≡ true → is_closed new.search e ≡ true
    closed_still e of closed =
        let drive = IsDrive-of t.shape e old.cluster of in
        elim (cases_Bool (same_drive e gone)) [
          | inl this ↦ or_right (has new.search.taken e) (has new.search.spent e) (is.added e drive ∙ or_left (same_drive e gone) (has p.search.spent e) this)
          | inr other ↦ elim (or_cases (has p.search.taken e) (has p.search.spent e) closed) [
            | inl taken ↦ or_left (has new.search.taken e) (has new.search.spent e)
                (is.removed e drive ∙ and_from (not (same_drive e gone)) (has p.search.taken e) (not_from_false (same_drive e gone) other) taken)
            | inr spent ↦ or_right (has new.search.taken e) (has new.search.spent e) (is.added e drive ∙ or_right (same_drive e gone) (has p.search.spent e) spent)
          ]
        ]

    pub slots_are : slots_of new ≡ slots_of p
    slots_are = ap (λ (w : _). w.items ++ reverse new.waiting.items) is.written ∙ ap (λ (w : _). p.written.items ++ reverse w.items) is.waiting

    pub group : drives_of_all place_of (slots_of new) ≡ before ++ after
    group = ap (drives_of_all place_of) slots_are ∙ without_it

    pub now_failed : drives_in new.failed.items ≡ drives_in p.failed.items ++ gone ∷ []
    now_failed = ap drives_in is.failed ∙ map-append (λ (x : Place). x.drive) p.failed.items (place_from (place_of held) ∷ [])

    pub now_spent : (e : Drive) → spent_by new.failed.items new.search.empty.items e ≡ (same_drive e gone || spent_by p.failed.items p.search.empty.items e)
    now_spent e =
        ap (λ xs. is_in xs e || is_in (drives_at new.search.empty.items) e) now_failed
        ∙ ap (λ (x : _). is_in (drives_in p.failed.items ++ gone ∷ []) e || is_in (drives_at x.items) e) is.empty
        ∙ ap (λ b. b || is_in (drives_at p.search.empty.items) e) (is_in-push (drives_in p.failed.items) gone e ∙ ap (λ b. is_in (drives_in p.failed.items) e || b) (same_drive-sym gone e))
        ∙ sym (joined (same_drive e gone) (is_in (drives_in p.failed.items) e) (is_in (drives_at p.search.empty.items) e))

    here : (e : Drive) → same_drive e gone ≡ true → (has t.used e ≡ false) × (is_in (before ++ after) e ≡ false)
    here e same = (
      subst (λ d. has t.used d ≡ false) (sym (same_drive-eq e gone same)) was.1,
      subst (λ d. is_in (before ++ after) d ≡ false) (sym (same_drive-eq e gone same)) gone-apart,
    )

    taken : (e : Drive) → is_of t.shape e ≡ true → has new.search.taken e ≡ (has t.used e || is_in (before ++ after) e)
    taken e of =
        is.removed e (IsDrive-of t.shape e old.cluster of)
        ∙ ap (λ b. not (same_drive e gone) && b)
        (old.taken e of ∙ ap (λ b. has t.used e || b) (ap (λ xs. is_in xs e) with_it ∙ is_in-midst before after gone e ∙ ap (λ b. is_in (before ++ after) e || b) (same_drive-sym gone e)))
        ∙ off (same_drive e gone) (has t.used e) (is_in (before ++ after) e) (here e)

    taken_marks : MarksOne t.shape gone (has new.search.taken) (has p.search.taken)
    taken_marks = record {
      of_shape = gone-of;
      was = taken gone gone-of ∙ or_from (has t.used gone) (is_in (before ++ after) gone) was.1 gone-apart;
      now = λ e of. on_again (same_drive e gone) (has new.search.taken e) (has p.search.taken e)
          (λ same. subst (λ d. has p.search.taken d ≡ true) (sym (same_drive-eq e gone same))
          (old.taken gone gone-of ∙ or_right (has t.used gone) _ (ap (λ xs. is_in xs gone) with_it ∙ in_group)))
          (is.removed e (IsDrive-of t.shape e old.cluster of));
    }

    spent_marks : MarksOne t.shape gone (has p.search.spent) (has new.search.spent)
    spent_marks = record { of_shape = gone-of; was = unspent; now = λ e of. is.added e (IsDrive-of t.shape e old.cluster of) }

    not_spent : (e : Drive) → is_in (before ++ after) e ≡ true → spent_by new.failed.items new.search.empty.items e ≡ false
    not_spent e there =
        now_spent e ∙ or_from (same_drive e gone) _ (is_other (before ++ after) e gone there gone-apart)
        (is_left-parts (request_of t) (spent_by p.failed.items p.search.empty.items) e
        (may_with.left e (is_in-midst before after gone e ∙ or_left _ (same_drive gone e) there))).2

    units : (node : ℕ) → 1 ≤ node → node ≤ t.shape.nodes → drives_on t.shape.drives node (has new.search.taken) ≡ units_on (request_of t) (before ++ after) node
    units node some within =
        let before_it = old.units node some within ∙ ap (λ xs. units_on (request_of t) xs node) with_it in
        let marked = drives_on-marked t.shape gone (has new.search.taken) (has p.search.taken) taken_marks node some within in
        let count = count_by-midst (λ (x : Drive). eqb x.node node) before after gone in
        omega (arith, before_it, marked, count)

    -- the group was at a stage when the slot failed
    pub aside-between : IsAtStage place_of t p (slots_with p held) → IsBetweenStages place_of t new
    aside-between stage = record {
      earlier = drives_in p.failed.items;
      last = gone;
      failed = now_failed;
      stage =
          subst (λ (x : _). ComesTo (request_of t) t.count (drives_of_all place_of x.items ++ gone ∷ drives_of_all place_of (reverse new.waiting.items)) (drives_in p.failed.items) (drives_at new.search.empty.items))
          (sym is.written)
          (subst (λ (x : _). ComesTo (request_of t) t.count (before ++ gone ∷ drives_of_all place_of (reverse x.items)) (drives_in p.failed.items) (drives_at new.search.empty.items)) (sym is.waiting)
          (subst (λ (x : _). ComesTo (request_of t) t.count (before ++ gone ∷ after) (drives_in p.failed.items) (drives_at x.items)) (sym is.empty)
          (subst (λ ds. ComesTo (request_of t) t.count ds (drives_in p.failed.items) (drives_at p.search.empty.items)) with_it stage)));
    }

    pub aside-in_order : IsInOrder place_of t new (slots_of new)
    aside-in_order =
        let more = ap length is.failed ∙ length_push p.failed.items (place_from (place_of held)) in
        record {
          cluster = old.cluster;
          none = ap (λ (x : _). x.items) is.slots ∙ old.none;
          places = subst (All (λ x. IsPlaceOf t.shape (place_from (place_of x)))) (sym slots_are)
              (All-without (λ x. IsPlaceOf t.shape (place_from (place_of x))) p.written.items (reverse p.waiting.items) held old.places);
          taken = λ e of. taken e of ∙ ap (λ xs. has t.used e || is_in xs e) (sym group);
          spent = λ e of. is.added e (IsDrive-of t.shape e old.cluster of) ∙ ap (λ b. same_drive e gone || b) (old.spent e of) ∙ sym (now_spent e);
          units = λ node some within. units node some within ∙ ap (λ xs. units_on (request_of t) xs node) (sym group);
          may = subst (MayGive (request_of t) (spent_by new.failed.items new.search.empty.items)) (sym group)
              (MayGive-again (request_of t) (spent_by p.failed.items p.search.empty.items) (spent_by new.failed.items new.search.empty.items) (before ++ after) not_spent
              (MayGive-less (request_of t) (spent_by p.failed.items p.search.empty.items) before after gone may_with));
          empty_tried = subst (λ (x : _). MayBeTried (request_of t) (drives_at x.items)) (sym is.empty) old.empty_tried;
          failed_tried = subst (MayBeTried (request_of t)) (sym now_failed)
              (MayBeTried-push (request_of t) (drives_in p.failed.items) gone old.failed_tried gone-of was.0 was.1 (or_parts _ _ was.2).0);
          first = λ e there.
              let mine : is_in (before ++ after) e ≡ true = ap (λ xs. is_in xs e) (sym group) ∙ there in
              prefixes-keep (request_of t) (spent_by p.failed.items p.search.empty.items) (spent_by new.failed.items new.search.empty.items)
              (λ x spent. now_spent x ∙ or_right (same_drive x gone) _ spent) t.count e (not_spent e mine)
              (old.first e (ap (λ xs. is_in xs e) with_it ∙ is_in-midst before after gone e ∙ or_left _ (same_drive gone e) mine));
          apart = λ e there.
              ap (λ (x : _). is_in (drives_at x.items) e) is.empty
              ∙ each_push (λ d. is_in (drives_at p.search.empty.items) d ≡ false) (drives_in p.failed.items) gone old.apart (or_parts _ _ was.2).1
              e (ap (λ xs. is_in xs e) (sym now_failed) ∙ there);
          counted =
              let counted = old.counted in
              let long : length new.search.empty.items ≡ length p.search.empty.items = ap (λ (x : _). length x.items) is.empty in
              let marked = marked_up_to-marked t.shape gone (has p.search.spent) (has new.search.spent) spent_marks in
              omega (arith, counted, long, more, marked);
          few =
              let few = old.few in
              let one = length-append p.written.items (held ∷ reverse p.waiting.items) in
              let rest = length-append p.written.items (reverse p.waiting.items) in
              let same = ap length slots_are in
              omega (arith, few, one, rest, same);
          room = record {
            slots = subst (λ (x : _). 1 ≤ t.count → 1 ≤ vec_capacity x) (sym is.slots) old.room.slots;
            waiting = subst (λ (x : _). t.count ≤ vec_capacity x) (sym is.waiting) old.room.waiting;
            written = subst (λ (x : _). t.count ≤ vec_capacity x) (sym is.written) old.room.written;
            empty = subst (λ (x : _). t.shape.nodes * t.shape.drives ≤ vec_capacity x) (sym is.empty) old.room.empty;
            failed = subst (λ n. t.shape.nodes * t.shape.drives ≤ n) (sym is.capacity) old.room.failed;
          };
        }
