-- A search goes on where a drive is tried.
use Rattle.std.proofs.Common.{◌≡◌, ℕ, ◌+◌, Bool, true, false, ◌||◌, List, [], ◌∷◌, ◌++◌, refl, sym, ap, subst, ◌∙◌, arith}
use Rattle.std.specs.List.{All}
use Rattle.std.proofs.lemmas.Bool.{or_parts}
use Rattle.std.proofs.lemmas.List.{map-append}
use Rattle.std.proofs.lemmas.List.Elements.{All-push}
use Rattle.domains.specs.Shape.{Shape, is_of}
use Rattle.domains.specs.Drive.{Drive, same_drive, is_in}
use Rattle.flex_io.specs.declared.raw_place.RawPlace.{RawPlace}
use Rattle.held_slots.specs.Slots.{count_on, drive_of, place_from}
use Rattle.slot_pool.specs.Pools.{PoolView}
use Rattle.domains.specs.Place.{IsPlaceOf}
use Rattle.turn_cell.specs.Seats.{SeatView}
use Rattle.fabric.specs.Accounts.{Gains, Holds}
use Rattle.fabric.specs.PoolTurns.{FindsNone, Takes}
use Rattle.fabric.specs.HandTurns.{AtPool}
use Rattle.fabric.specs.Views.{seat_on}
use Rattle.fabric.specs.declared.hand.Hand.{Hand}
use Rattle.slot_search.specs.HandSeats.{AtSeat, FoundEmpty, drives_at, drives_of_all}
use Rattle.slot_search.specs.Searches.{HasTried}
use Rattle.slot_search.specs.declared.empty_at.EmptyAt.{EmptyAt}
use Rattle.domains.specs.Counts.{one_if}
use Rattle.domains.proofs.DriveLemmas.{is_in-at, is_in-push, same_drive-sym}
use Rattle.held_slots.proofs.SlotCounts.{count_on-push}
use Rattle.placement_order.proofs.ApartDrives.{is_another}

or_swapped : (a u b : Bool) → (a || (u || b)) ≡ (u || (b || a))
or_swapped true true b = refl
or_swapped true false true = refl
or_swapped true false false = refl
or_swapped false true b = refl
or_swapped false false true = refl
or_swapped false false false = refl

-- a drive of the list is not one that the list has not
pub is_other : (xs : List Drive) (e d : Drive) → is_in xs e ≡ true → is_in xs d ≡ false → same_drive e d ≡ false
is_other xs e d there out = same_drive-sym e d ∙ is_another xs d e out there

-- what a list, as marked beside others, has once a drive is added to both
pub marked_push : (xs : List Drive) (d e : Drive) (others : Bool) → (same_drive e d || (others || is_in xs e)) ≡ (others || is_in (xs ++ d ∷ []) e)
marked_push xs d e others =
    or_swapped (same_drive e d) others (is_in xs e)
    ∙ ap (λ b. others || (is_in xs e || b)) (same_drive-sym e d)
    ∙ ap (λ b. others || b) (sym (is_in-push xs d e))

module _ {S : Type 0} (place_of : S → RawPlace) where
  -- a seat at another drive stays as it is told
  pub seat-stays : (shape : Shape) (e : Drive) (what : SeatView (PoolView S) → SeatView (PoolView S) → Type 0) (start old new : Hand S)
      → seat_on shape new e ≡ seat_on shape old e → AtSeat shape e what start old → AtSeat shape e what start new
  seat-stays shape e what start old new same at = record { before = at.before; after = at.after; before_is = at.before_is; after_is = same ∙ at.after_is; done = at.done }

  module _ (shape : Shape) (d : Drive) (what : SeatView (PoolView S) → SeatView (PoolView S) → Type 0) (start old new : Hand S) (at : AtPool shape d what old new) where
    taken-stays : (slots : List S) → is_in (drives_of_all place_of slots) d ≡ false → All (λ held. IsPlaceOf shape (place_from (place_of held))) slots
        → All (λ held. AtSeat shape (drive_of place_of held) (Takes place_of held) start old) slots
        → All (λ held. AtSeat shape (drive_of place_of held) (Takes place_of held) start new) slots
    taken-stays slots out places all k default within =
        seat-stays shape _ _ start old new
        (at.others _ (places k default within).drive
        (is_other (drives_of_all place_of slots) _ d (is_in-at (drive_of place_of) slots k default within) out))
        (all k default within)

    empty-stays : (found : List EmptyAt) → is_in (drives_at found) d ≡ false → ((e : Drive) → is_in (drives_at found) e ≡ true → is_of shape e ≡ true)
        → FoundEmpty place_of shape found start old → FoundEmpty place_of shape found start new
    empty-stays found out of all k default within =
        let there = is_in-at (λ (e : EmptyAt). e.drive) found k default within in
        seat-stays shape _ _ start old new (at.others _ (of _ there) (is_other (drives_at found) _ d there out)) (all k default within)

    at_seat : seat_on shape old d ≡ seat_on shape start d → AtSeat shape d what start new
    at_seat same = record { before = at.before; after = at.after; before_is = sym same ∙ at.before_is; after_is = at.after_is; done = at.done }

  -- the drive is of the cluster and was not tried yet
  pub record IsUntried (shape : Shape) (slots : List S) (found : List EmptyAt) (d : Drive) : Type 0 where
    pub of_shape : is_of shape d ≡ true
    pub not_drawn : is_in (drives_of_all place_of slots) d ≡ false
    pub not_found : is_in (drives_at found) d ≡ false

  -- a drive that is in neither longer list is another one
  apart_from : (xs : List Drive) (d e : Drive) → is_in (xs ++ d ∷ []) e ≡ false → (is_in xs e ≡ false) × (same_drive e d ≡ false)
  apart_from xs d e out =
      let parts = or_parts _ _ (sym (is_in-push xs d e) ∙ out) in
      (parts.0, same_drive-sym e d ∙ parts.1)

  pub drives-push : (slots : List S) (held : S) → drives_of_all place_of (slots ++ held ∷ []) ≡ drives_of_all place_of slots ++ drive_of place_of held ∷ []
  drives-push slots held = map-append (drive_of place_of) slots (held ∷ [])

  pub drives_at-push : (found : List EmptyAt) (e : EmptyAt) → drives_at (found ++ e ∷ []) ≡ drives_at found ++ e.drive ∷ []
  drives_at-push found e = map-append (λ (e : EmptyAt). e.drive) found (e ∷ [])

  module _ (marked : Drive → Bool) (shape : Shape) (slots : List S) (found : List EmptyAt) (start old new : Hand S)
      (places : All (λ held. IsPlaceOf shape (place_from (place_of held))) slots) (of : (e : Drive) → is_in (drives_at found) e ≡ true → is_of shape e ≡ true) where
    pub Came-gave : (held : S) → IsUntried shape slots found (drive_of place_of held) → marked (drive_of place_of held) ≡ false
        → AtPool shape (drive_of place_of held) (Takes place_of held) old new
        → HasTried place_of marked shape slots found start old → HasTried place_of marked shape (slots ++ held ∷ []) found start new
    Came-gave held untried unmarked at came =
        let d : Drive = drive_of place_of held in
        let still = came.others d untried.of_shape unmarked untried.not_drawn untried.not_found in
        record {
          taken = All-push (λ x. AtSeat shape (drive_of place_of x) (Takes place_of x) start new) slots held
              (taken-stays shape d (Takes place_of held) start old new at slots untried.not_drawn places came.taken)
              (at_seat shape d (Takes place_of held) start old new at still);
          empty = empty-stays shape d (Takes place_of held) start old new at found untried.not_found of came.empty;
          others = λ e is plain out none.
              let parts = apart_from (drives_of_all place_of slots) d e (sym (ap (λ xs. is_in xs e) (drives-push slots held)) ∙ out) in
              at.others e is parts.1 ∙ came.others e is plain parts.0 none;
        }

    pub Came-none : (none : EmptyAt) → IsUntried shape slots found none.drive → marked none.drive ≡ false
        → AtPool shape none.drive (FindsNone place_of none.turn) old new
        → HasTried place_of marked shape slots found start old → HasTried place_of marked shape slots (found ++ none ∷ []) start new
    Came-none none untried unmarked at came =
        let d : Drive = none.drive in
        let what = FindsNone place_of none.turn in
        let still = came.others d untried.of_shape unmarked untried.not_drawn untried.not_found in
        record {
          taken = taken-stays shape d what start old new at slots untried.not_drawn places came.taken;
          empty = All-push (λ (e : EmptyAt). AtSeat shape e.drive (FindsNone place_of e.turn) start new) found none
              (empty-stays shape d what start old new at found untried.not_found of came.empty)
              (at_seat shape d what start old new at still);
          others = λ e is plain out others.
              let parts = apart_from (drives_at found) d e (sym (ap (λ xs. is_in xs e) (drives_at-push found none)) ∙ others) in
              at.others e is parts.1 ∙ came.others e is plain out parts.0;
        }

  pub count_on-one : (e : Drive) (slots : List S) (held : S) → count_on place_of e (slots ++ held ∷ []) ≡ count_on place_of e slots + one_if (same_drive e (drive_of place_of held))
  count_on-one e slots held = let count = count_on-push place_of e slots held in let same = ap one_if (same_drive-sym e (drive_of place_of held)) in omega (arith, count, same)

  -- the account of a slot more
  pub account-gave : (shape : Shape) (slots : List S) (held : S) (old new : Hand S) → Gains shape (drive_of place_of held) old new
      → (e : Drive) (many : ℕ) → is_of shape e ≡ true → Holds shape e (many + count_on place_of e slots) old
      → Holds shape e (many + count_on place_of e (slots ++ held ∷ [])) new
  account-gave shape slots held old new more e many is holds =
      let count = count_on-one e slots held in
      let sum : (many + count_on place_of e slots) + one_if (same_drive e (drive_of place_of held)) ≡ many + count_on place_of e (slots ++ held ∷ []) = omega (arith, count) in
      subst (λ n. Holds shape e n new) sum (more e (many + count_on place_of e slots) is holds)
