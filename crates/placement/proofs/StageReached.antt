-- The stage that a group has come to, once a draw for a slot that failed has ended.
use Rattle.std.proofs.Common.{◌≡◌, inl, inr, Bool, true, false, not, ◌&&◌, ◌||◌, List, [], ◌∷◌, ◌++◌, take, sym, ap, subst, ◌∙◌}
use Rattle.std.proofs.lemmas.Bool.{and_left, and_parts, and_right, both_ways, false_from_ne_true, not-true, or_cases, or_from, or_parts, or_right}
use Rattle.domains.specs.Shape.{is_of}
use Rattle.domains.specs.Drive.{Drive, same_drive, is_in}
use Rattle.domains.specs.DriveSet.{has}
use Rattle.domains.proofs.DriveLemmas.{is_in-append, is_in-push, is_in-take, same_drive-eq, same_drive-self}
use Rattle.flex_io.specs.declared.raw_place.RawPlace.{RawPlace}
use Rattle.fabric.specs.Cells.{FabricView}
use Rattle.fabric.specs.declared.hand.Hand.{Hand}
use Rattle.placement_order.specs.Order.{DrawRequest, order_of, visits_of}
use Rattle.placement_order.specs.PassedDrives.{passed_of}
use Rattle.placement_order.specs.Stages.{ComesTo, Stage, first_stage, in_place_of, next_stage, request_at, stage_of}
use Rattle.placement_order.proofs.AlikeRequests.{FindsLeft, TriesSame, order-alike, passed-alike}
use Rattle.placement_order.proofs.ApartDrives.{is_in-midst}
use Rattle.placement_order.proofs.GroupChanges.{is_left-from, is_left-parts}
use Rattle.placement_order.proofs.NodeCounts.{drives_on-agree}
use Rattle.placement_order.proofs.NodeDrives.{is_of-on}
use Rattle.placement_order.proofs.OrderMembers.{order-left, order-of_shape}
use Rattle.placement_order.proofs.StageLemmas.{in_place_of-midst, stage_from-push, stages-stay}
use Rattle.slot_search.specs.HandSeats.{drives_at, drives_of_all}
use Rattle.placement.specs.PlacedGroups.{drives_in}
use Rattle.slot_search.specs.Searches.{IsBefore, KeepsSearch, request_of, without_barred}
use Rattle.placement.specs.PartialGroups.{IsAtStage, IsBetweenStages, IsInOrder, slots_of}
use Rattle.placement.specs.declared.partial_group.PartialGroup.{PartialGroup}
use Rattle.slot_search.specs.declared.search.Search.{Search}
use Rattle.slot_search.specs.declared.request.Request.{Request}
use Rattle.placement.proofs.ReplacementOrder.{IsAfter, ahead, behind, drives, drives_are, failed_apart, first_drawn, found_passed, given-drives, none-slots, one_more, spent, still_found, unspent}

module _ {S : Type 0} (place_of : S → RawPlace) (f : FabricView) (t : Request) (p : PartialGroup S) (old : IsInOrder place_of t p (slots_of p))
    (q : Search S) (hand mid : Hand S) (keeps : KeepsSearch place_of f (one_more t p) p.search q hand mid)
    (order : (before : List Drive) → IsBefore place_of (one_more t p) before (visits_of (request_of (one_more t p))) p.search → IsBefore place_of (one_more t p) before [] q)
    (between : IsBetweenStages place_of t p) where
  abbrev s : DrawRequest
  s = request_of t

  abbrev group : List Drive
  group = drives place_of f t p old q hand mid keeps order

  abbrev front : List Drive
  front = ahead place_of f t p old q hand mid keeps order

  abbrev back : List Drive
  back = behind place_of f t p old q hand mid keeps order

  abbrev gone : Drive → Bool
  gone = spent place_of f t p old q hand mid keeps order

  abbrev found : List Drive
  found = drives_at p.search.empty.items

  abbrev empty : Drive → Bool
  empty = is_in (drives_at q.empty.items)

  abbrev last : Drive
  last = between.last

  -- the stage before the failure
  abbrev stage : Stage
  stage = record { slots = front ++ last ∷ back; failed = between.earlier; found = found }

  -- what the next stage asks for, and what the search did
  abbrev asked : DrawRequest
  asked = request_at s stage last

  abbrev searched : DrawRequest
  searched = without_barred (one_more t p)

  group_is : group ≡ front ++ back
  group_is = drives_are place_of f t p old q hand mid keeps order

  last_failed : is_in (drives_in p.failed.items) last ≡ true
  last_failed =
      ap (λ xs. is_in xs last) between.failed ∙ is_in-push between.earlier last last
      ∙ or_right (is_in between.earlier last) (same_drive last last) (same_drive-self last)

  -- the drive whose slot failed is none of the group's
  last_out : is_in (front ++ back) last ≡ false
  last_out =
      ap (λ xs. is_in xs last) (sym group_is)
      ∙ false_from_ne_true _ (λ there. both_ways _ (or_parts (is_in (drives_in p.failed.items) last) _ (unspent place_of f t p old q hand mid keeps order last there)).0 last_failed)

  out_of_front : is_in front last ≡ false
  out_of_front = (or_parts (is_in front last) (is_in back last) (sym (is_in-append front back last) ∙ last_out)).0

  in_place : (these : List Drive) → in_place_of last these (front ++ last ∷ back) ≡ front ++ (these ++ back)
  in_place these = in_place_of-midst last these front back out_of_front

  used_same : (d : Drive) → is_of t.shape d ≡ true → has p.search.taken d ≡ asked.used d
  used_same d of = old.taken d of ∙ ap (λ xs. has t.used d || is_in xs d) (group_is ∙ sym (in_place []))

  barred_is : (d : Drive) → is_of t.shape d ≡ true → has p.search.spent d ≡ (is_in (between.earlier ++ last ∷ []) d || is_in found d)
  barred_is d of = old.spent d of ∙ ap (λ xs. is_in xs d || is_in found d) between.failed

  usable_same : (d : Drive) → is_of t.shape d ≡ true → searched.usable d ≡ asked.usable d
  usable_same d of = ap (λ b. s.usable d && not b) (barred_is d of)

  finds : FindsLeft asked empty searched.usable searched.used gone 1
  finds = record {
    units = λ node some within. drives_on-agree t.shape.drives node (has p.search.taken) asked.used (λ d on. used_same d (is_of-on s node d some within on));
    less = λ d of left.
        let parts = is_left-parts searched gone d left in
        is_left-from asked empty d (sym (usable_same d of) ∙ parts.0) (sym (used_same d of) ∙ parts.1) (or_parts (is_in (drives_in p.failed.items) d) (empty d) parts.2).1;
    kept = λ d there.
        let among = is_in-take 1 (order_of asked empty) d there in
        let of = order-of_shape asked empty d among in
        let parts = is_left-parts asked empty d (order-left asked empty d among) in
        let sound = or_parts (is_in (between.earlier ++ last ∷ []) d) (is_in found d) (not-true _ (and_parts (s.usable d) _ parts.0).1) in
        is_left-from searched gone d (usable_same d of ∙ parts.0) (used_same d of ∙ parts.1)
        (or_from (is_in (drives_in p.failed.items) d) (empty d) (ap (λ xs. is_in xs d) between.failed ∙ sound.0) parts.2);
  }

  tries : TriesSame asked empty searched.usable searched.used gone found
  tries = record {
    free = λ d of. ap (λ b. b && not (has p.search.taken d)) (usable_same d of) ∙ ap (λ b. asked.usable d && not b) (used_same d of);
    shut = λ d of there.
        and_left (asked.usable d) (not (asked.used d)) (and_right (s.usable d) _ (ap not (or_right (is_in (between.earlier ++ last ∷ []) d) (is_in found d) there)));
  }

  slots_now : take 1 (order_of asked empty) ≡ drives_of_all place_of q.slots.items
  slots_now = sym (order-alike asked empty searched.usable searched.used gone 1 finds) ∙ first_drawn place_of f t p old q hand mid keeps order

  found_now : found ++ passed_of asked empty 1 ≡ drives_at q.empty.items
  found_now = sym (passed-alike asked empty searched.usable searched.used gone 1 finds found tries) ∙ found_passed place_of f t p old q hand mid keeps order

  -- no drive of the stage, and none that failed before, was found empty now
  kept : (d : Drive) → (is_in between.earlier d || is_in (stage_of s (is_in found) t.count between.earlier).slots d) ≡ true → empty d ≡ false
  kept d there =
      let never : is_in (drives_in p.failed.items) d ≡ true → empty d ≡ false = failed_apart place_of f t p old q hand mid keeps order d in
      elim (or_cases (is_in between.earlier d) _ there) [
        | inl failed ↦
            never (ap (λ xs. is_in xs d) between.failed ∙ is_in-append between.earlier (last ∷ []) d ∙ ap (λ b. b || is_in (last ∷ []) d) failed)
        | inr of_group ↦
            elim (or_cases (is_in (front ++ back) d) (same_drive last d) (sym (is_in-midst front back last d) ∙ ap (λ (x : Stage). is_in x.slots d) (sym between.stage) ∙ of_group)) [
              | inl other ↦
                  (or_parts (is_in (drives_in p.failed.items) d) (empty d) (unspent place_of f t p old q hand mid keeps order d (ap (λ xs. is_in xs d) group_is ∙ other))).1
              | inr this ↦ never (subst (λ e. is_in (drives_in p.failed.items) e ≡ true) (same_drive-eq last d this) last_failed)
            ]
      ]

  reached : ComesTo s t.count (front ++ (drives_of_all place_of q.slots.items ++ back)) (between.earlier ++ last ∷ []) (drives_at q.empty.items)
  reached =
      stage_from-push between.earlier s empty (first_stage s empty t.count) last
      ∙ ap (λ (x : Stage). next_stage s empty x last)
      (stages-stay s (is_in found) empty (still_found place_of f t p old q hand mid keeps order) t.count between.earlier kept ∙ between.stage)
      ∙ ap (λ slots. let made : Stage = record { slots = slots; failed = between.earlier ++ last ∷ []; found = found ++ passed_of asked empty 1 } in made)
      (in_place (take 1 (order_of asked empty)) ∙ ap (λ xs. front ++ (xs ++ back)) slots_now)
      ∙ ap (λ ds. let made : Stage = record { slots = front ++ (drives_of_all place_of q.slots.items ++ back); failed = between.earlier ++ last ∷ []; found = ds } in made) found_now

  at-stage : (new : PartialGroup S) → IsAfter place_of f t p old q hand mid keeps order new
      → drives_of_all place_of (slots_of new) ≡ front ++ (drives_of_all place_of q.slots.items ++ back) → IsAtStage place_of t new (slots_of new)
  at-stage new after slots =
      subst (λ ds. ComesTo s t.count ds (drives_in new.failed.items) (drives_at new.search.empty.items)) (sym slots)
      (subst (λ (x : _). ComesTo s t.count (front ++ (drives_of_all place_of q.slots.items ++ back)) (drives_in x.items) (drives_at new.search.empty.items)) (sym after.failed)
      (subst (λ (x : _). ComesTo s t.count (front ++ (drives_of_all place_of q.slots.items ++ back)) (drives_in p.failed.items) (drives_at x.items)) (sym after.empty)
      (subst (λ ds. ComesTo s t.count (front ++ (drives_of_all place_of q.slots.items ++ back)) ds (drives_at q.empty.items)) (sym between.failed) reached)))

  -- no drive gave a slot
  pub none-stage : q.slots.items ≡ [] → (new : PartialGroup S) → IsAfter place_of f t p old q hand mid keeps order new → new.waiting ≡ p.waiting → IsAtStage place_of t new (slots_of new)
  none-stage none new after waiting =
      at-stage new after
      (ap (drives_of_all place_of) (none-slots place_of f t p old q hand mid keeps order none new after waiting) ∙ group_is
      ∙ ap (λ xs. front ++ (drives_of_all place_of xs ++ back)) (sym none))

  -- a drive gave this one
  pub given-stage : (x : S) → q.slots.items ≡ x ∷ [] → (new : PartialGroup S) → IsAfter place_of f t p old q hand mid keeps order new
      → new.waiting.items ≡ p.waiting.items ++ x ∷ [] → IsAtStage place_of t new (slots_of new)
  given-stage x given new after waiting =
      at-stage new after
      (given-drives place_of f t p old q hand mid keeps order x given new after waiting ∙ ap (λ xs. front ++ (drives_of_all place_of xs ++ back)) (sym given))
