-- What the hand did, once a slot that failed is retired.
use Rattle.std.proofs.Common.{◌≡◌, ℕ, ◌+◌, true, false, List, [], ◌∷◌, ◌++◌, reverse, sym, ap, subst, ◌∙◌, arith}
use Rattle.std.specs.Prelude.{Option}
use Rattle.std.specs.List.{All}
use Rattle.std.proofs.lemmas.Bool.{or_from, or_parts}
use Rattle.std.proofs.lemmas.List.Elements.{All-cons, All-nil, All-push}
use Rattle.domains.specs.Shape.{is_of}
use Rattle.domains.specs.Drive.{Drive, same_drive, is_in}
use Rattle.flex_io.specs.Faults.{HasRisen}
use Rattle.flex_io.specs.declared.raw_place.RawPlace.{RawPlace}
use Rattle.held_slots.specs.Slots.{count_on, drive_of, place_from}
use Rattle.domains.specs.Place.{IsPlaceOf}
use Rattle.fabric.specs.Accounts.{Holds, Loses, Stays}
use Rattle.fabric.specs.PoolTurns.{Takes}
use Rattle.fabric.specs.Views.{seat_on}
use Rattle.fabric.specs.declared.hand.Hand.{Hand}
use Rattle.slot_search.specs.HandSeats.{AtSeat, FoundEmpty, drives_of_all}
use Rattle.placement.specs.PlacedGroups.{AreWritten, HasFailed}
use Rattle.placement.specs.PartialGroups.{HasLost, HasPlaced, IsInOrder, NotesFailure, slots_of, slots_with}
use Rattle.placement.specs.declared.partial_group.PartialGroup.{PartialGroup}
use Rattle.slot_search.specs.declared.request.Request.{Request}
use Rattle.placement.proofs.SlotFailed.{after, before, gone-of, group, now_spent, slots_are, with_it, gone-place}
use Rattle.placement.proofs.SlotLists.{All-right}
use Rattle.placement_order.proofs.ApartDrives.{is_in-midst}
use Rattle.domains.specs.Counts.{one_if}
use Rattle.placement.proofs.OtherSeats.{RetiresEach-push, all-failed-stay, all-written-stay, empty-rests, waiting-stays}
use Rattle.domains.proofs.DriveLemmas.{same_drive-sym}
use Rattle.slot_search.proofs.TriedDrives.{seat-stays}
use Rattle.std.proofs.lemmas.List.{map-append, reverse-append}
use Rattle.fabric.specs.YardTurns.{Retires}
use Rattle.turn_cell.specs.Seats.{seat_view}
use Rattle.held_slots.proofs.SlotCounts.{count_on-cons, count_on-midst}

-- how many are on a drive, with one more slot in the midst
pub count_on-between : {S : Type 0} (place_of : S → RawPlace) (e : Drive) (xs ys : List S) (x : S)
    → count_on place_of e (xs ++ x ∷ ys) ≡ count_on place_of e (xs ++ ys) + one_if (same_drive e (drive_of place_of x))
count_on-between place_of e xs ys x =
    let all = count_on-midst place_of e xs ys x in let same = ap one_if (same_drive-sym e (drive_of place_of x)) in omega (arith, all, same)

module _ {S : Type 0} (place_of : S → RawPlace) (content : S → Option (List ℕ)) (len_of faults : S → ℕ) (t : Request) (p new : PartialGroup S) (held : S)
    (old : IsInOrder place_of t p (slots_with p held)) (is : NotesFailure (place_from (place_of held)) p new) where
  pub parted : (units : List (List ℕ)) (start hand_old hand_new : Hand S) (drawn : S) → ((e : Drive) → is_of t.shape e ≡ true → seat_on t.shape hand_new e ≡ seat_on t.shape hand_old e)
      → Retires place_of held (seat_view hand_old.yard) (seat_view hand_new.yard)
      → Loses t.shape (drive_of place_of held) hand_old hand_new → HasRisen (faults drawn) (faults held)
      → place_of held ≡ place_of drawn → AtSeat t.shape (drive_of place_of drawn) (Takes place_of drawn) start hand_old
      → HasPlaced place_of content len_of faults t units p (slots_with p held) start hand_old
      → HasPlaced place_of content len_of faults t units new (slots_of new) start hand_new
  parted units start hand_old hand_new drawn rests retires less rose same at has =
      let d : Drive = drive_of place_of held in
      record {
        written = subst (λ (w : _). AreWritten place_of content len_of t.shape units start hand_new w.items) (sym is.written)
            (all-written-stay place_of t.shape start hand_old hand_new content len_of units p.written.items (λ e of there. rests e of) has.written);
        waiting = subst (λ (w : _). All (λ x. AtSeat t.shape (drive_of place_of x) (Takes place_of x) start hand_new) (reverse w.items)) (sym is.waiting)
            (waiting-stays place_of t.shape start hand_old hand_new (reverse p.waiting.items)
            (All-right (λ x. IsPlaceOf t.shape (place_from (place_of x))) (held ∷ []) (reverse p.waiting.items)
            (All-right (λ x. IsPlaceOf t.shape (place_from (place_of x))) p.written.items (held ∷ reverse p.waiting.items) old.places))
            (λ e of there. rests e of) has.waiting);
        empty = subst (λ (x : _). FoundEmpty place_of t.shape x.items start hand_new) (sym is.empty)
            (empty-rests place_of t.shape start hand_old hand_new p.search.empty.items old.empty_tried.of_shape (λ e of there. rests e of) has.empty);
        failures = record {
          slots = has.failures.slots ++ held ∷ [];
          places_are =
              map-append (λ x. place_from (place_of x)) has.failures.slots (held ∷ [])
              ∙ ap (λ xs. xs ++ place_from (place_of held) ∷ []) has.failures.places_are ∙ sym is.failed;
          each = All-push (HasFailed place_of faults t.shape start hand_new) has.failures.slots held
              (all-failed-stay place_of t.shape start hand_old hand_new faults has.failures.slots (λ e of there. rests e of) has.failures.each)
              (record {
                drawn = drawn;
                place = same;
                of_shape = gone-place place_of t p new held old;
                taken = seat-stays place_of t.shape _ _ start hand_old hand_new
                    (subst (λ x. seat_on t.shape hand_new (place_from x).drive ≡ seat_on t.shape hand_old (place_from x).drive) same (rests d (gone-of place_of t p new held old))) at;
                rose = rose;
              });
          retired = RetiresEach-push place_of has.failures.slots held (seat_view start.yard) (seat_view hand_old.yard) (seat_view hand_new.yard) has.failures.retired retires;
        };
        others = λ e of out unspent.
            let parts = or_parts (same_drive e d) _ (sym (now_spent place_of t p new held old is e) ∙ unspent) in
            let away : is_in (drives_of_all place_of (slots_with p held)) e ≡ false =
            ap (λ xs. is_in xs e) (with_it place_of t p new held old) ∙ is_in-midst (before place_of t p new held old) (after place_of t p new held old) d e
            ∙ or_from _ (same_drive d e) (ap (λ xs. is_in xs e) (sym (group place_of t p new held old is)) ∙ out) (same_drive-sym d e ∙ parts.0) in
            rests e of ∙ has.others e of away parts.1;
        account = λ e many of holds.
            let count = count_on-between place_of e p.written.items (reverse p.waiting.items) held in
            let sum : many + count_on place_of e (slots_with p held) ≡ (many + count_on place_of e (slots_of p)) + one_if (same_drive e d) = omega (arith, count) in
            subst (λ xs. Holds t.shape e (many + count_on place_of e xs) hand_new) (sym (slots_are place_of t p new held old is))
            (less e (many + count_on place_of e (slots_of p)) of (subst (λ n. Holds t.shape e n hand_old) sum (has.account e many of holds)));
      }

-- what the hand holds, once a slot that failed is lost
pub spent-lost : {S : Type 0} (place_of : S → RawPlace) (t : Request) (p : PartialGroup S) (held : S) → IsPlaceOf t.shape (place_from (place_of held))
    → (start hand_old hand_new : Hand S) → Stays t.shape hand_old hand_new
    → ((d : Drive) (many : ℕ) → is_of t.shape d ≡ true → Holds t.shape d many start → Holds t.shape d (many + count_on place_of d (slots_with p held)) hand_old)
    → HasLost place_of t.shape (slots_of p) start hand_new
spent-lost place_of t p held place start hand_old hand_new same account = record {
  lost = held ∷ [];
  places = All-cons (λ x. IsPlaceOf t.shape (place_from (place_of x))) held [] place (All-nil (λ x. IsPlaceOf t.shape (place_from (place_of x))));
  account = λ e many of holds.
      let all = count_on-midst place_of e p.written.items (reverse p.waiting.items) held in
      let one = count_on-cons place_of e held [] in
      let sum : many + count_on place_of e (slots_with p held) ≡ many + (count_on place_of e (slots_of p) + count_on place_of e (held ∷ [])) = omega (arith, all, one) in
      same e (many + (count_on place_of e (slots_of p) + count_on place_of e (held ∷ []))) of (subst (λ n. Holds t.shape e n hand_old) sum (account e many of holds));
}

-- what the hand holds, if a slot that was not written waits again
pub waits-lost : {S : Type 0} (place_of : S → RawPlace) (t : Request) (p : PartialGroup S) (held slot : S) (waiting : List S) → place_of slot ≡ place_of held
    → waiting ≡ p.waiting.items ++ slot ∷ [] → (start now : Hand S)
    → ((d : Drive) (many : ℕ) → is_of t.shape d ≡ true → Holds t.shape d many start → Holds t.shape d (many + count_on place_of d (slots_with p held)) now)
    → HasLost place_of t.shape (p.written.items ++ reverse waiting) start now
waits-lost place_of t p held slot waiting same is start now account = record {
  lost = [];
  places = All-nil (λ x. IsPlaceOf t.shape (place_from (place_of x)));
  account = λ e many of holds.
      let mine = count_on-midst place_of e p.written.items (reverse p.waiting.items) held in
      let again = count_on-midst place_of e p.written.items (reverse p.waiting.items) slot in
      let equal = ap (λ x. one_if (same_drive (place_from x).drive e)) same in
      let turned = ap (λ xs. count_on place_of e (p.written.items ++ xs)) (ap reverse is ∙ reverse-append p.waiting.items (slot ∷ [])) in
      let sum : many + count_on place_of e (slots_with p held) ≡ many + (count_on place_of e (p.written.items ++ reverse waiting) + count_on place_of e [])
      = omega (arith, mine, again, equal, turned) in
      subst (λ n. Holds t.shape e n now) sum (account e many of holds);
}
