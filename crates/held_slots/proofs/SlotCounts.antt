-- How many slots are on a drive.
use Rattle.std.proofs.Common.{◌≡◌, suc, ◌+◌, false, List, [], ◌∷◌, ◌++◌, refl, ap, arith}
use Rattle.std.specs.List.{All}
use Rattle.domains.specs.Counts.{one_if}
use Rattle.domains.specs.Drive.{Drive}
use Rattle.flex_io.specs.declared.raw_place.RawPlace.{RawPlace}
use Rattle.domains.proofs.CountLemmas.{count_by-cons, count_by-push, count_by-append}
use Rattle.held_slots.specs.Slots.{is_on, count_on}

module _ {S : Type 0} (place_of : S → RawPlace) where
  pub count_on-cons : (d : Drive) (slot : S) (slots : List S) → count_on place_of d (slot ∷ slots) ≡ one_if (is_on place_of d slot) + count_on place_of d slots
  count_on-cons d slot slots = count_by-cons (is_on place_of d) slot slots

  pub count_on-append : (d : Drive) (xs ys : List S) → count_on place_of d (xs ++ ys) ≡ count_on place_of d xs + count_on place_of d ys
  count_on-append d xs ys = count_by-append (is_on place_of d) xs ys

  pub count_on-push : (d : Drive) (slots : List S) (slot : S) → count_on place_of d (slots ++ slot ∷ []) ≡ count_on place_of d slots + one_if (is_on place_of d slot)
  count_on-push d slots slot = count_by-push (is_on place_of d) slots slot

  pub count_on-none : (d : Drive) (slots : List S) → All (λ slot. is_on place_of d slot ≡ false) slots → count_on place_of d slots ≡ 0
  count_on-none d [] none = refl
  count_on-none d (x ∷ xs) none =
      let rest = count_on-none d xs (λ k default l. none (suc k) default (omega (arith, l))) in
      let here : one_if (is_on place_of d x) ≡ 0 = ap one_if (none 0 x (omega arith)) in
      let all = count_on-cons d x xs in
      omega (arith, rest, here, all)

  -- a slot was in the midst of these
  pub count_on-midst : (d : Drive) (before after : List S) (slot : S) → count_on place_of d (before ++ slot ∷ after) ≡ count_on place_of d (before ++ after) + one_if (is_on place_of d slot)
  count_on-midst d before after slot =
      let old = count_on-append d before (slot ∷ after) in
      let new = count_on-append d before after in
      let here = count_on-cons d slot after in
      omega (arith, old, new, here)
