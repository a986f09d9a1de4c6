-- A slot that is taken out of a list, and what the hand holds once it is retired.
use Rattle.std.proofs.Common.{◌≡◌, ℕ, zero, suc, ◌+◌, ◌<◌, Bool, true, false, List, [], ◌∷◌, ◌++◌, All, length, get_or, Option, None, Some, IfSome, inl, inr, sym, ap, subst, ◌∙◌, arith}
use Rattle.std.specs.List.{remove}
use Rattle.std.proofs.lemmas.Bool.{cases_Bool, cond-false, cond-true}
use Rattle.std.proofs.lemmas.List.Elements.{All-cons, All-head, All-tail}
use Rattle.domains.specs.Counts.{one_if}
use Rattle.domains.specs.Drive.{AreApart, Drive, is_in, same_drive}
use Rattle.domains.specs.Place.{IsPlaceOf}
use Rattle.domains.specs.Shape.{Shape, is_of}
use Rattle.domains.proofs.CountLemmas.{count_by-append, count_by-cons}
use Rattle.domains.proofs.DriveLemmas.{same_drive-sym}
use Rattle.flex_io.specs.declared.raw_place.RawPlace.{RawPlace}
use Rattle.held_slots.specs.Slots.{count_on, drive_of, is_on, place_from}
use Rattle.fabric.specs.Accounts.{Holds, Loses}
use Rattle.fabric.specs.declared.hand.Hand.{Hand}
use Rattle.slot_search.specs.HandSeats.{drives_of_all}
use Rattle.board.specs.declared.board_view.View.{View}
use Rattle.domains.specs.DriveSet.{has}
use Rattle.turn_cell.specs.Seats.{seat_view}
use Rattle.placed_runs.specs.PlacedRuns.{HoldsLess, MayGoBack, RetiresOne}

-- what holds of all holds of the others
all_others : {A : Type 0} (P : A → Type 0) (xs : List A) (p : ℕ) → All P xs → All P (remove xs p)
all_others P [] zero all = all
all_others P [] (suc p) all = all
all_others P (x ∷ xs) zero all = All-tail P x xs all
all_others P (x ∷ xs) (suc p) all = All-cons P x (remove xs p) (All-head P x xs all) (all_others P xs p (All-tail P x xs all))

module _ {S : Type 0} (place_of : S → RawPlace) where
  -- a drive of the others is one of all
  others_in : (xs : List S) (p : ℕ) (d : Drive) → is_in (drives_of_all place_of (remove xs p)) d ≡ true → is_in (drives_of_all place_of xs) d ≡ true
  others_in [] zero d there = there
  others_in [] (suc p) d there = there
  others_in (x ∷ xs) zero d there = elim (cases_Bool (same_drive (drive_of place_of x) d)) [
    | inl same ↦ cond-true (same_drive (drive_of place_of x) d) true (is_in (drives_of_all place_of xs) d) same
    | inr other ↦ cond-false (same_drive (drive_of place_of x) d) true (is_in (drives_of_all place_of xs) d) other ∙ there
  ]
  others_in (x ∷ xs) (suc p) d there = elim (cases_Bool (same_drive (drive_of place_of x) d)) [
    | inl same ↦ cond-true (same_drive (drive_of place_of x) d) true (is_in (drives_of_all place_of xs) d) same
    | inr other ↦
        cond-false (same_drive (drive_of place_of x) d) true (is_in (drives_of_all place_of xs) d) other
        ∙ others_in xs p d (sym (cond-false (same_drive (drive_of place_of x) d) true (is_in (drives_of_all place_of (remove xs p)) d) other) ∙ there)
  ]

  others_not_in : (xs : List S) (p : ℕ) (d : Drive) → is_in (drives_of_all place_of xs) d ≡ false → is_in (drives_of_all place_of (remove xs p)) d ≡ false
  others_not_in xs p d none = elim (cases_Bool (is_in (drives_of_all place_of (remove xs p)) d)) [
    | inl there ↦ absurd (unequal (sym (others_in xs p d there) ∙ none))
    | inr out ↦ out
  ]
    where
      unequal : true ≡ false → ⊥
      unequal same = cc

  others_apart : (xs : List S) (p : ℕ) → AreApart (drives_of_all place_of xs) → AreApart (drives_of_all place_of (remove xs p))
  others_apart [] zero apart = apart
  others_apart [] (suc p) apart = apart
  others_apart (x ∷ xs) zero apart = apart.1
  others_apart (x ∷ xs) (suc p) apart = (others_not_in xs p (drive_of place_of x) apart.0, others_apart xs p apart.1)

  -- the others may go back too
  pub others_may_go : (shape : Shape) (view : View) (xs : List S) (p : ℕ) → MayGoBack place_of shape view xs → MayGoBack place_of shape view (remove xs p)
  others_may_go shape view xs p may = record {
    places = all_others (λ (y : S). IsPlaceOf shape (place_from (place_of y))) xs p may.places;
    apart = others_apart xs p may.apart;
    up = λ d there. may.up d (others_in xs p d there);
  }

  -- all are the others and the one
  counted : (d : Drive) (xs : List S) (p : ℕ) (x : S) → p < length xs → x ≡ get_or xs p x
      → count_on place_of d xs ≡ count_on place_of d (remove xs p) + one_if (is_on place_of d x)
  counted d [] p x within is = absurd (omega (arith, within))
  counted d (y ∷ ys) zero x within is =
      let first = count_by-cons (is_on place_of d) y ys in
      let same : one_if (is_on place_of d x) ≡ one_if (is_on place_of d y) = ap (λ (z : S). one_if (is_on place_of d z)) is in
      omega (arith, first, same)
  counted d (y ∷ ys) (suc p) x within is =
      let first = count_by-cons (is_on place_of d) y ys in
      let second = count_by-cons (is_on place_of d) y (remove ys p) in
      let rest = counted d ys p x (omega (arith, within)) is in
      omega (arith, first, second, rest)

  -- one was retired, and the others went back
  pub less_with : (shape : Shape) (xs : List S) (p : ℕ) (x : S) (old between new : Hand S) → p < length xs → x ≡ get_or xs p x
      → Loses shape (drive_of place_of x) old between → HoldsLess place_of shape (remove xs p) between new → HoldsLess place_of shape xs old new
  less_with shape xs p x old between new within is one others = record {
    each = λ d many of holds.
        let all = counted d xs p x within is in
        let turned : one_if (is_on place_of d x) ≡ one_if (same_drive d (drive_of place_of x)) = ap one_if (same_drive-sym (drive_of place_of x) d) in
        let moved : many + count_on place_of d xs ≡ many + count_on place_of d (remove xs p) + one_if (same_drive d (drive_of place_of x)) = omega (arith, all, turned) in
        others.each d many of (one d (many + count_on place_of d (remove xs p)) of (subst (λ (n : ℕ). Holds shape d n old) moved holds));
  }

  -- some went back, and then others
  pub less_then : (shape : Shape) (xs ys : List S) (old between new : Hand S) → HoldsLess place_of shape ys old between → HoldsLess place_of shape xs between new
      → HoldsLess place_of shape (xs ++ ys) old new
  less_then shape xs ys old between new first second = record {
    each = λ d many of holds.
        let joined = count_by-append (is_on place_of d) xs ys in
        let moved : many + count_on place_of d (xs ++ ys) ≡ many + count_on place_of d xs + count_on place_of d ys = omega (arith, joined) in
        second.each d many of (first.each d (many + count_on place_of d xs) of (subst (λ (n : ℕ). Holds shape d n old) moved holds));
  }

  -- what follows at the pools leaves it retired
  pub stays_retired : (shape : Shape) (failed : Option ℕ) (slots : List S) (old between new : Hand S) → seat_view new.yard ≡ seat_view between.yard
      → IfSome failed (λ (p : ℕ). RetiresOne place_of shape p slots old between) → IfSome failed (λ (p : ℕ). RetiresOne place_of shape p slots old new)
  stays_retired shape None slots old between new yard one = tt
  stays_retired shape (Some p) slots old between new yard one = record { between = one.between; retired = one.retired; yard = yard ∙ one.yard }
