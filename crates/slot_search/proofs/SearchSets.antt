-- A search goes on, with its sets and its room, where a drive gives a slot and where it has none.
use Rattle.std.proofs.Common.{◌≡◌, ℕ, ◌+◌, ◌*◌, ◌<◌, ◌≤◌, inl, inr, Bool, true, false, ◌||◌, [], ◌∷◌, ◌++◌, length, eqb, append-nil, refl, sym, ap, subst, ◌∙◌, arith}
use Rattle.std.specs.Prelude.{vec_capacity}
use Rattle.std.proofs.lemmas.Bool.{both_ways, false_from_ne_true, or_cases, or_from, or_left, or_parts, or_right}
use Rattle.std.specs.List.{All}
use Rattle.std.proofs.lemmas.List.{length_push}
use Rattle.std.proofs.lemmas.List.Elements.{All-push}
use Rattle.domains.specs.Shape.{is_of}
use Rattle.domains.specs.Drive.{Drive, IsDrive, same_drive, is_in}
use Rattle.domains.specs.DriveSet.{has}
use Rattle.domains.specs.Room.{drives_on}
use Rattle.flex_io.specs.declared.raw_place.RawPlace.{RawPlace}
use Rattle.held_slots.specs.Slots.{count_on, drive_of, place_from}
use Rattle.domains.specs.Place.{IsPlaceOf}
use Rattle.domains.proofs.ShapeLemmas.{IsDrive-of}
use Rattle.fabric.specs.Accounts.{Gains, Holds, Stays}
use Rattle.fabric.specs.Cells.{FabricView}
use Rattle.fabric.specs.PoolTurns.{FindsNone, Takes}
use Rattle.fabric.specs.HandTurns.{AtPool}
use Rattle.fabric.specs.Views.{IsHandOf, number_of}
use Rattle.fabric.specs.declared.hand.Hand.{Hand}
use Rattle.placement_order.specs.OrderLaws.{MayBeTried}
use Rattle.slot_search.specs.HandSeats.{drives_at, drives_of_all}
use Rattle.placement_order.specs.Order.{units_on}
use Rattle.slot_search.specs.Searches.{HasTried, IsSearch, KeepsSearch, MayTry, is_closed, request_of}
use Rattle.placement_order.specs.Room.{marked_up_to}
use Rattle.slot_search.specs.declared.search.Search.{Search}
use Rattle.slot_search.specs.declared.request.Request.{Request}
use Rattle.placement_order.proofs.OrderMembers.{each_push}
use Rattle.placement_order.proofs.GroupChanges.{MayBeTried-push}
use Rattle.placement_order.proofs.MarkedDrives.{MarksOne, drives_on-marked, marked_up_to-marked, marked_up_to-few}
use Rattle.domains.proofs.CountLemmas.{count_by-push}
use Rattle.domains.proofs.DriveLemmas.{same_drive-eq, same_drive-self}
use Rattle.slot_search.proofs.SeatTurns.{asks-one}
use Rattle.slot_search.proofs.TriedDrives.{Came-gave, Came-none, IsUntried, account-gave, is_other, drives-push, drives_at-push, marked_push}

-- the set has what it had, and this drive
pub record Adds (d : Drive) (old new : Drive → Bool) : Type 0 where
  pub adds : (e : Drive) → IsDrive e → new e ≡ (same_drive e d || old e)

or_other : (a b : Bool) → (a || b) ≡ (b || a)
or_other true true = refl
or_other true false = refl
or_other false true = refl
or_other false false = refl

module _ {S : Type 0} (place_of : S → RawPlace) (t : Request) (old : Search S) (search : IsSearch place_of t old) (d : Drive) where
  module _ (may : MayTry place_of t old d) where
    not_taken : (has t.used d ≡ false) × (is_in (drives_of_all place_of old.slots.items) d ≡ false)
    not_taken = or_parts _ _ (sym (search.taken d may.of_shape) ∙ (or_parts _ _ may.not_closed).0)

    not_spent : (has t.barred d ≡ false) × (is_in (drives_at old.empty.items) d ≡ false)
    not_spent = or_parts _ _ (sym (search.spent d may.of_shape) ∙ (or_parts _ _ may.not_closed).1)

    untried : IsUntried place_of t.shape old.slots.items old.empty.items d
    untried = record { of_shape = may.of_shape; not_drawn = not_taken.1; not_found = not_spent.1 }

    -- there is room to note that it is empty
    pub room_for_empty : length old.empty.items < vec_capacity old.empty
    room_for_empty =
        let counted = search.counted in
        let space = search.space in
        let few = marked_up_to-few t.shape d (has old.spent) may.of_shape (or_parts (has old.taken d) (has old.spent d) may.not_closed).1 in
        omega (arith, counted, space, few)

    marks : (was now : Drive → Bool) → Adds d was now → was d ≡ false → MarksOne t.shape d was now
    marks was now adds not = record { of_shape = may.of_shape; was = not; now = λ e of. adds.adds e (IsDrive-of t.shape e search.cluster of) }

    -- a drive that is closed is another one
    another : (e : Drive) → is_closed old e ≡ true → same_drive e d ≡ false
    another e closed = false_from_ne_true _ (λ same. both_ways _ may.not_closed (subst (λ x. is_closed old x ≡ true) (same_drive-eq e d same) closed))

    unmarked : (marked : Drive → Bool) → ((e : Drive) → is_of t.shape e ≡ true → marked e ≡ true → is_closed old e ≡ true) → marked d ≡ false
    unmarked marked closed = false_from_ne_true (marked d) (λ there. both_ways (is_closed old d) may.not_closed (closed d may.of_shape there))

    closed_more : (was now : Drive → Bool) → Adds d was now → (other : Bool) (e : Drive) → is_of t.shape e ≡ true → (was e || other) ≡ true → (now e || other) ≡ true
    closed_more was now adds other e of closed = elim (or_cases (was e) other closed) [
      | inl before ↦ or_left (now e) other (adds.adds e (IsDrive-of t.shape e search.cluster of) ∙ or_right (same_drive e d) (was e) before)
      | inr beside ↦ or_right (now e) other beside
    ]

    module _ (f : FabricView) (new : Search S) (hand_old hand_new : Hand S) (hand : IsHandOf f hand_new) (number : number_of hand_new ≡ number_of hand_old) where
      -- what a search is that drew a slot more
      module _ (held : S) (on : drive_of place_of held ≡ d) (slots : new.slots.items ≡ old.slots.items ++ held ∷ [])
          (room : vec_capacity new.slots ≡ vec_capacity old.slots) (taken : Adds d (has old.taken) (has new.taken))
          (spent : new.spent ≡ old.spent) (empty : new.empty ≡ old.empty) where
        pub drives-gave : drives_of_all place_of new.slots.items ≡ drives_of_all place_of old.slots.items ++ d ∷ []
        drives-gave = ap (drives_of_all place_of) slots ∙ drives-push place_of old.slots.items held ∙ ap (λ x. drives_of_all place_of old.slots.items ++ x ∷ []) on

        units-gave : (node : ℕ) → 1 ≤ node → node ≤ t.shape.nodes
            → drives_on t.shape.drives node (has new.taken) ≡ units_on (request_of t) (drives_of_all place_of new.slots.items) node
        units-gave node some within =
            let before = search.units node some within in
            let marked = drives_on-marked t.shape d (has old.taken) (has new.taken)
            (marks (has old.taken) (has new.taken) taken (or_parts _ _ may.not_closed).0) node some within in
            let count = count_by-push (λ (x : Drive). eqb x.node node) (drives_of_all place_of old.slots.items) d in
            let sum : drives_on t.shape.drives node (has new.taken) ≡ units_on (request_of t) (drives_of_all place_of old.slots.items ++ d ∷ []) node
            = omega (arith, before, marked, count) in
            sum ∙ ap (λ xs. units_on (request_of t) xs node) (sym drives-gave)

        search-gave : IsPlaceOf t.shape (place_from (place_of held)) → IsSearch place_of t new
        search-gave place =
            let few = may.wanted in
            let more = ap length slots ∙ length_push old.slots.items held in
            record {
              cluster = search.cluster;
              places = subst (All (λ x. IsPlaceOf t.shape (place_from (place_of x)))) (sym slots)
                  (All-push (λ x. IsPlaceOf t.shape (place_from (place_of x))) old.slots.items held search.places place);
              taken = λ e of.
                  taken.adds e (IsDrive-of t.shape e search.cluster of)
                  ∙ ap (λ b. same_drive e d || b) (search.taken e of)
                  ∙ marked_push (drives_of_all place_of old.slots.items) d e (has t.used e)
                  ∙ ap (λ xs. has t.used e || is_in xs e) (sym drives-gave);
              spent = λ e of. ap (λ x. has x e) spent ∙ search.spent e of ∙ ap (λ (x : _). has t.barred e || is_in (drives_at x.items) e) (sym empty);
              units = units-gave;
              few = omega (arith, few, more);
              room = subst (λ n. t.count ≤ n) (sym room) search.room;
              tried = subst (λ (x : _). MayBeTried (request_of t) (drives_at x.items)) (sym empty) search.tried;
              apart = λ e of there. ap (λ x. has x e) spent
                  ∙ each_push (λ x. is_of t.shape x ≡ true → has old.spent x ≡ false) (drives_of_all place_of old.slots.items) d
                  (λ x there of. search.apart x of there) (λ of. (or_parts _ _ may.not_closed).1)
                  e (ap (λ xs. is_in xs e) (sym drives-gave) ∙ there) of;
              counted = subst (λ x. length new.empty.items ≤ marked_up_to t.shape.nodes t.shape.drives (has x)) (sym spent)
                  (subst (λ (x : _). length x.items ≤ marked_up_to t.shape.nodes t.shape.drives (has old.spent)) (sym empty) search.counted);
              space = subst (λ (x : _). t.shape.nodes * t.shape.drives ≤ vec_capacity x) (sym empty) search.space;
            }

        pub keeps-gave : IsPlaceOf t.shape (place_from (place_of held)) → AtPool t.shape (drive_of place_of held) (Takes place_of held) hand_old hand_new
            → Gains t.shape (drive_of place_of held) hand_old hand_new → KeepsSearch place_of f t old new hand_old hand_new
        keeps-gave place at more = record {
          hand = hand;
          number = number;
          board = at.board;
          search = search-gave place;
          yard = at.yard;
          came = λ marked closed start came.
              subst (λ (x : _). HasTried place_of marked t.shape new.slots.items x.items start hand_new) (sym empty)
              (subst (λ xs. HasTried place_of marked t.shape xs old.empty.items start hand_new) (sym slots)
              (Came-gave place_of marked t.shape old.slots.items old.empty.items start hand_old hand_new search.places search.tried.of_shape held
              (subst (IsUntried place_of t.shape old.slots.items old.empty.items) (sym on) untried) (ap marked on ∙ unmarked marked closed) at came));
          account = λ e many of holds.
              subst (λ xs. Holds t.shape e (many + count_on place_of e xs) hand_new) (sym slots)
              (account-gave place_of t.shape old.slots.items held hand_old hand_new more e many of holds);
          asked = asks-one place_of t.shape new (drive_of place_of held) (Takes place_of held) hand_old hand_new
              (subst (λ x. is_closed new x ≡ true) (sym on)
              (or_left (has new.taken d) (has new.spent d)
              (taken.adds d (IsDrive-of t.shape d search.cluster may.of_shape) ∙ or_left (same_drive d d) (has old.taken d) (same_drive-self d))))
              at (λ before after took. inl (held, took));
          counted =
              let long : length new.empty.items ≡ length old.empty.items = ap (λ (x : _). length x.items) empty in
              let marked : marked_up_to t.shape.nodes t.shape.drives (has new.spent) ≡ marked_up_to t.shape.nodes t.shape.drives (has old.spent)
              = ap (λ x. marked_up_to t.shape.nodes t.shape.drives (has x)) spent in
              omega (arith, long, marked);
          found = ([], ap (λ (x : _). x.items) empty ∙ sym (append-nil old.empty.items));
          same = λ e of closed. (
            ap (λ x. has new.taken e || has x e) spent ∙ closed_more (has old.taken) (has new.taken) taken (has old.spent e) e of closed,
            at.others e of (ap (same_drive e) on ∙ another e closed),
          );
        }

      -- what a search is that found one drive more without a free slot
      module _ (turn : ℕ) (taken : new.taken ≡ old.taken) (spent : Adds d (has old.spent) (has new.spent)) (slots : new.slots ≡ old.slots)
          (empty : new.empty.items ≡ old.empty.items ++ record { drive = d; turn = turn } ∷ []) (room : vec_capacity new.empty ≡ vec_capacity old.empty) where
        drives-none : drives_at new.empty.items ≡ drives_at old.empty.items ++ d ∷ []
        drives-none = ap drives_at empty ∙ drives_at-push place_of old.empty.items (record { drive = d; turn = turn })

        search-none : IsSearch place_of t new
        search-none =
            let counted = search.counted in
            let more = ap length empty ∙ length_push old.empty.items (record { drive = d; turn = turn }) in
            let marked = marked_up_to-marked t.shape d (has old.spent) (has new.spent)
            (marks (has old.spent) (has new.spent) spent (or_parts (has old.taken d) (has old.spent d) may.not_closed).1) in
            record {
              cluster = search.cluster;
              places = subst (λ (v : _). All (λ x. IsPlaceOf t.shape (place_from (place_of x))) v.items) (sym slots) search.places;
              taken = λ e of. ap (λ x. has x e) taken ∙ search.taken e of ∙ ap (λ (x : _). has t.used e || is_in (drives_of_all place_of x.items) e) (sym slots);
              spent = λ e of.
                  spent.adds e (IsDrive-of t.shape e search.cluster of)
                  ∙ ap (λ b. same_drive e d || b) (search.spent e of)
                  ∙ marked_push (drives_at old.empty.items) d e (has t.barred e)
                  ∙ ap (λ xs. has t.barred e || is_in xs e) (sym drives-none);
              units = λ node some within.
                  ap (λ x. drives_on t.shape.drives node (has x)) taken ∙ search.units node some within
                  ∙ ap (λ (x : _). units_on (request_of t) (drives_of_all place_of x.items) node) (sym slots);
              few = subst (λ (x : _). length x.items ≤ t.count) (sym slots) search.few;
              room = subst (λ (x : _). t.count ≤ vec_capacity x) (sym slots) search.room;
              tried = subst (MayBeTried (request_of t)) (sym drives-none)
                  (MayBeTried-push (request_of t) (drives_at old.empty.items) d search.tried may.of_shape may.usable not_taken.0 not_spent.1);
              apart = λ e of there.
                  let drawn : is_in (drives_of_all place_of old.slots.items) e ≡ true = ap (λ (x : _). is_in (drives_of_all place_of x.items) e) (sym slots) ∙ there in
                  spent.adds e (IsDrive-of t.shape e search.cluster of)
                  ∙ or_from (same_drive e d) (has old.spent e) (is_other (drives_of_all place_of old.slots.items) e d drawn not_taken.1) (search.apart e of drawn);
              counted = omega (arith, counted, more, marked);
              space = subst (λ n. t.shape.nodes * t.shape.drives ≤ n) (sym room) search.space;
            }

        pub keeps-none : AtPool t.shape d (FindsNone place_of turn) hand_old hand_new → Stays t.shape hand_old hand_new → KeepsSearch place_of f t old new hand_old hand_new
        keeps-none at same = record {
          hand = hand;
          number = number;
          board = at.board;
          search = search-none;
          yard = at.yard;
          came = λ marked closed start came.
              subst (λ (x : _). HasTried place_of marked t.shape x.items new.empty.items start hand_new) (sym slots)
              (subst (λ xs. HasTried place_of marked t.shape old.slots.items xs start hand_new) (sym empty)
              (Came-none place_of marked t.shape old.slots.items old.empty.items start hand_old hand_new search.places search.tried.of_shape (record { drive = d; turn = turn })
              untried (unmarked marked closed) at came));
          account = λ e many of holds.
              subst (λ (x : _). Holds t.shape e (many + count_on place_of e x.items) hand_new) (sym slots)
              (same e (many + count_on place_of e old.slots.items) of holds);
          asked = asks-one place_of t.shape new d (FindsNone place_of turn) hand_old hand_new
              (or_right (has new.taken d) (has new.spent d)
              (spent.adds d (IsDrive-of t.shape d search.cluster may.of_shape) ∙ or_left (same_drive d d) (has old.spent d) (same_drive-self d)))
              at (λ before after none. inr (turn, none));
          counted =
              let more = ap length empty ∙ length_push old.empty.items (record { drive = d; turn = turn }) in
              let marked = marked_up_to-marked t.shape d (has old.spent) (has new.spent)
              (marks (has old.spent) (has new.spent) spent (or_parts (has old.taken d) (has old.spent d) may.not_closed).1) in
              omega (arith, more, marked);
          found = (record { drive = d; turn = turn } ∷ [], empty);
          same = λ e of closed. (
            ap (λ x. has x e || has new.spent e) taken
                ∙ or_other (has old.taken e) (has new.spent e)
                ∙ closed_more (has old.spent) (has new.spent) spent (has old.taken e) e of (or_other (has old.spent e) (has old.taken e) ∙ closed),
            at.others e of (another e closed),
          );
        }
