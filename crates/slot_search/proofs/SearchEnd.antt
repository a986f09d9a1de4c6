-- What a search has come to once all visits are made.
use Rattle.std.proofs.Common.{◌≡◌, ℕ, ◌+◌, ◌<◌, ◌≤◌, not, ◌&&◌, ◌||◌, inl, inr, Bool, true, false, cond, List, [], ◌∷◌, length, take, refl, sym, ap, subst, ◌∙◌, arith}
use Rattle.std.specs.List.{All}
use Rattle.std.proofs.lemmas.Bool.{and_from, and_parts, both_ways, cases_Bool, false_from_ne_true, not_from_false, or_parts}
use Rattle.std.proofs.lemmas.List.{length-map, length-take, take_all}
use Rattle.std.proofs.lemmas.List.Elements.{All-head, All-nil, All-tail}
use Rattle.domains.specs.Shape.{Shape, is_of}
use Rattle.domains.specs.Drive.{Drive, same_drive, is_in}
use Rattle.domains.specs.DriveSet.{has}
use Rattle.flex_io.specs.declared.raw_place.RawPlace.{RawPlace}
use Rattle.held_slots.specs.Slots.{count_on, drive_of, place_from}
use Rattle.domains.specs.Place.{IsPlaceOf}
use Rattle.fabric.specs.Accounts.{Holds}
use Rattle.fabric.specs.Cells.{FabricView}
use Rattle.fabric.specs.PoolTurns.{FindsNone, Takes}
use Rattle.fabric.specs.declared.hand.Hand.{Hand}
use Rattle.slot_search.specs.HandSeats.{AtSeat, Drew, drives_at, drives_of_all}
use Rattle.placement_order.specs.OrderLaws.{MayGive}
use Rattle.placement_order.specs.Order.{drawn_in, order_of, visits_of}
use Rattle.placement_order.specs.PassedDrives.{passed_in, passed_of}
use Rattle.slot_search.specs.Searches.{HasTried, IsBefore, IsNew, KeepsSearch, MayBeSpent, request_of, without_barred}
use Rattle.slot_search.specs.declared.empty_at.EmptyAt.{EmptyAt}
use Rattle.slot_search.specs.declared.search.Search.{Search}
use Rattle.slot_search.specs.declared.request.Request.{Request}
use Rattle.domains.proofs.DriveLemmas.{same_drive-eq, is_in-take}
use Rattle.placement_order.proofs.OrderMembers.{order-left, order-may_give, order-of_shape, take-may_give}
use Rattle.placement_order.proofs.AlikeRequests.{FindsLeft, order-alike, passed-alike}
use Rattle.placement_order.proofs.GroupChanges.{is_left-from, is_left-parts}

-- a prefix that is shorter than asked for is the whole
pub take-short : {A : Type 0} (n : ℕ) (xs ys : List A) → take n xs ≡ ys → length ys < n → xs ≡ ys
take-short n xs ys is short =
    let long = length-take n xs in
    let same = ap length is in
    sym (take_all n xs (omega (arith, long, same, short))) ∙ is

open_too : (a b c : Bool) → b ≡ false → ((a && not b) && not c) ≡ (a && not c)
open_too true false c none = refl
open_too false false c none = refl
open_too a true c none = absurd (both_ways true none refl)

module _ (t : Request) (spent : Drive → Bool) (gone : (d : Drive) → is_of t.shape d ≡ true → has t.barred d ≡ true → spent d ≡ true) (count : ℕ) where
  -- where the barred drives are spent, the request finds the same drives left without them
  finds_left : FindsLeft (request_of t) spent (without_barred t).usable (has t.used) spent count
  finds_left = record {
    units = λ node some within. refl;
    less = λ d of left.
        let parts = is_left-parts (without_barred t) spent d left in
        is_left-from (request_of t) spent d (and_parts ((request_of t).usable d) (not (has t.barred d)) parts.0).0 parts.1 parts.2;
    kept = λ d there.
        let among = is_in-take count (order_of (request_of t) spent) d there in
        let parts = is_left-parts (request_of t) spent d (order-left (request_of t) spent d among) in
        let unbarred : has t.barred d ≡ false = false_from_ne_true _ (λ barred. both_ways _ parts.2 (gone d (order-of_shape (request_of t) spent d among) barred)) in
        is_left-from (without_barred t) spent d (and_from ((request_of t).usable d) (not (has t.barred d)) parts.0 (not_from_false (has t.barred d) unbarred)) parts.1 parts.2;
  }

  pub order-unbarred : take count (order_of (without_barred t) spent) ≡ take count (order_of (request_of t) spent)
  order-unbarred = order-alike (request_of t) spent (without_barred t).usable (has t.used) spent count finds_left

  pub passed-unbarred : ((d : Drive) → has t.barred d ≡ false) → passed_of (without_barred t) spent count ≡ passed_of (request_of t) spent count
  passed-unbarred none =
      passed-alike (request_of t) spent (without_barred t).usable (has t.used) spent count finds_left [] (record {
        free = λ d of. open_too ((request_of t).usable d) (has t.barred d) (has t.used d) (none d);
        shut = λ d of there. absurd (both_ways false refl there);
      })

module _ {S : Type 0} (place_of : S → RawPlace) where
  -- nothing was drawn or found yet
  pub Came-nothing : (marked : Drive → Bool) (shape : Shape) (hand : Hand S) → HasTried place_of marked shape [] [] hand hand
  Came-nothing marked shape hand = record {
    taken = All-nil (λ held. AtSeat shape (drive_of place_of held) (Takes place_of held) hand hand);
    empty = All-nil (λ (e : EmptyAt). AtSeat shape e.drive (FindsNone place_of e.turn) hand hand);
    others = λ e of plain out none. refl;
  }

  -- the drives of slots of a cluster are of the cluster
  pub is_of-drawn : (shape : Shape) (slots : List S) (d : Drive) → All (λ held. IsPlaceOf shape (place_from (place_of held))) slots
      → is_in (drives_of_all place_of slots) d ≡ true → is_of shape d ≡ true
  is_of-drawn shape [] d places there = absurd (both_ways false refl there)
  is_of-drawn shape (x ∷ xs) d places there =
      let P : S → Type 0 = λ held. IsPlaceOf shape (place_from (place_of held)) in
      elim (cases_Bool (same_drive (drive_of place_of x) d)) [
        | inl here ↦ subst (λ e. is_of shape e ≡ true) (same_drive-eq (drive_of place_of x) d here) (All-head P x xs places).drive
        | inr later ↦ is_of-drawn shape xs d (All-tail P x xs places) (sym (ap (λ b. cond b true (is_in (drives_of_all place_of xs) d)) later) ∙ there)
      ]

  module _ (f : FabricView) (t : Request) (first last : Search S) (start mid : Hand S) (barred : (d : Drive) → has t.barred d ≡ false)
      (is_new : IsNew place_of t first) (keeps : KeepsSearch place_of f t first last start mid)
      (order : (before : List Drive) → IsBefore place_of t before (visits_of (request_of t)) first → IsBefore place_of t before [] last) where
    abbrev pub drawn : List Drive
    drawn = drives_of_all place_of last.slots.items

    abbrev pub spent : Drive → Bool
    spent = is_in (drives_at last.empty.items)

    came : HasTried place_of (λ d. false) t.shape last.slots.items last.empty.items start mid
    came = keeps.came (λ d. false) (λ e of there. absurd (both_ways false refl there)) start
        (subst (λ xs. HasTried place_of (λ d. false) t.shape xs first.empty.items start start) (sym is_new.slots)
        (subst (λ xs. HasTried place_of (λ d. false) t.shape [] xs start start) (sym is_new.empty) (Came-nothing (λ d. false) t.shape start)))

    pub drew : Drew place_of t.shape last.slots.items last.empty.items start mid
    drew = record {
      taken = came.taken;
      places = keeps.search.places;
      empty = came.empty;
      others = λ e of out none. came.others e of refl out none;
      yard = keeps.yard;
      account = λ e many of holds.
          let none : count_on place_of e first.slots.items ≡ 0 = ap (count_on place_of e) is_new.slots in
          let sum : many ≡ many + count_on place_of e first.slots.items = omega (arith, none) in
          keeps.account e many of (subst (λ n. Holds t.shape e n start) sum holds);
    }

    -- a drive that was drawn was not found empty
    pub not_found : (d : Drive) → is_in drawn d ≡ true → spent d ≡ false
    not_found d there =
        let of = is_of-drawn t.shape last.slots.items d drew.places there in
        (or_parts (has t.barred d) (spent d) (sym (keeps.search.spent d of) ∙ keeps.search.apart d of there)).1

    may : MayBeSpent place_of t last spent
    may = record {
      closed = λ d of gone. sym (ap (λ b. b || spent d) (barred d)) ∙ (sym (keeps.search.spent d of) ∙ gone);
      drawn = not_found;
    }

    few : length drawn ≤ t.count
    few = let few = keeps.search.few in let long = length-map last.slots.items (drive_of place_of) in omega (arith, few, long)

    begun : IsBefore place_of t [] (visits_of (request_of t)) first
    begun other _ = (
      ap (λ xs. take t.count (drawn_in (visits_of (request_of t)) (without_barred t) other (drives_of_all place_of xs))) (sym is_new.slots),
      ap (λ xs. passed_in (visits_of (request_of t)) (without_barred t) other t.count (drives_of_all place_of xs) []) (sym is_new.slots)
          ∙ ap (λ xs. passed_in (visits_of (request_of t)) (without_barred t) other t.count (drives_of_all place_of first.slots.items) (drives_at xs)) (sym is_new.empty),
    )

    none_barred : (d : Drive) → is_of t.shape d ≡ true → has t.barred d ≡ true → spent d ≡ true
    none_barred d of there = absurd (both_ways _ (barred d) there)

    -- the drives are a prefix of the order
    pub prefix : take t.count (order_of (request_of t) spent) ≡ drawn
    prefix = sym (order-unbarred t spent none_barred t.count) ∙ (order [] begun spent may).0 ∙ take_all t.count drawn few

    -- the drives found empty are those passed over
    pub passed : drives_at last.empty.items ≡ passed_of (request_of t) spent t.count
    passed = sym (order [] begun spent may).1 ∙ passed-unbarred t spent none_barred t.count barred

    -- and may give slots together
    pub may_give : MayGive (request_of t) spent drawn
    may_give = subst (MayGive (request_of t) spent) prefix (take-may_give (request_of t) spent t.count (order_of (request_of t) spent) (order-may_give (request_of t) spent))
