-- What a hand holds, once slots went back.
use Rattle.std.proofs.Common.{◌≡◌, ℕ, ◌+◌, true, List, [], ◌∷◌, ◌++◌, ap, subst, ◌∙◌, arith}
use Rattle.std.specs.List.{AllByRecursion}
use Rattle.std.proofs.lemmas.Grind.{flat_map-append}
use Rattle.domains.specs.Drive.{Drive}
use Rattle.domains.specs.Shape.{Shape, is_of}
use Rattle.domains.proofs.CountLemmas.{count_by-append}
use Rattle.flex_io.specs.declared.raw_place.RawPlace.{RawPlace}
use Rattle.held_slots.specs.Slots.{count_on, is_on}
use Rattle.fabric.specs.Accounts.{Holds}
use Rattle.fabric.specs.declared.hand.Hand.{Hand}
use Rattle.striped_groups.specs.StoredGroups.{GroupSlots}
use Rattle.placed_runs.specs.PlacedRuns.{HoldsLess, slots_of_groups}

pub with_last : {A : Type 0} (P : A → Type 0) (xs : List A) (x : A) → AllByRecursion P (xs ++ x ∷ []) → AllByRecursion P xs × P x
with_last P [] x all = (tt, all.0)
with_last P (y ∷ ys) x all = let rest = with_last P ys x all.1 in ((all.0, rest.0), rest.1)

module _ {S : Type 0} (place_of : S → RawPlace) where
  -- the hand held some slots, and holds others in their place
  pub record HoldsLessThan (shape : Shape) (before after : List S) (old new : Hand S) : Type 0 where
    pub each : (d : Drive) (many : ℕ) → is_of shape d ≡ true → Holds shape d (many + count_on place_of d before) old → Holds shape d (many + count_on place_of d after) new

  -- the last of the groups went back
  pub less_by_last : (shape : Shape) (all groups left : List (GroupSlots S)) (g : GroupSlots S) (start old new : Hand S) → groups ≡ left ++ g ∷ []
      → HoldsLessThan shape (slots_of_groups all) (slots_of_groups groups) start old → HoldsLess place_of shape g.slots old new
      → HoldsLessThan shape (slots_of_groups all) (slots_of_groups left) start new
  less_by_last shape all groups left g start old new is before less = record {
    each = λ d many of holds.
        let sum : count_on place_of d (slots_of_groups groups) ≡ count_on place_of d (slots_of_groups left) + count_on place_of d g.slots =
        ap (λ gs. count_on place_of d (slots_of_groups gs)) is ∙ joined d in
        let moved : many + count_on place_of d (slots_of_groups groups) ≡ many + count_on place_of d (slots_of_groups left) + count_on place_of d g.slots = omega (arith, sum) in
        less.each d (many + count_on place_of d (slots_of_groups left)) of (subst (λ (n : ℕ). Holds shape d n old) moved (before.each d many of holds));
  }
    where
      joined : (d : Drive) → count_on place_of d (slots_of_groups (left ++ g ∷ [])) ≡ count_on place_of d (slots_of_groups left) + count_on place_of d g.slots
      joined d =
          ap (count_on place_of d) (flat_map-append (λ (h : GroupSlots S). h.slots) left (g ∷ []))
          ∙ count_by-append (is_on place_of d) (slots_of_groups left) (slots_of_groups (g ∷ []))
          ∙ ap (λ (n : ℕ). count_on place_of d (slots_of_groups left) + n) (count_by-append (is_on place_of d) g.slots [] ∙ (let none : count_on place_of d g.slots + 0 ≡ count_on place_of d g.slots = omega arith in none))

  pub less_at_end : (shape : Shape) (all : List S) (left : List (GroupSlots S)) (start new : Hand S) → left ≡ []
      → HoldsLessThan shape all (slots_of_groups left) start new → HoldsLess place_of shape all start new
  less_at_end shape all left start new none less = record {
    each = λ d many of holds.
        let empty : count_on place_of d (slots_of_groups left) ≡ 0 = ap (λ gs. count_on place_of d (slots_of_groups gs)) none in
        let same : many + count_on place_of d (slots_of_groups left) ≡ many = omega (arith, empty) in
        subst (λ (n : ℕ). Holds shape d n new) same (less.each d many of holds);
  }
