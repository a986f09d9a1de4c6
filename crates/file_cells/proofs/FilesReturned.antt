-- Lists whose elements have slots, which go back one element after the other.
use Rattle.std.proofs.Common.{◌≡◌, ℕ, List, [], ◌∷◌, ◌++◌, reverse, Option, Result, Ok, refl, sym, ap, subst, ◌∙◌, append_assoc}
use Rattle.std.proofs.lemmas.Grind.{flat_map-append}
use Rattle.std.proofs.lemmas.List.{append-nil, reverse-append}
use Rattle.std.specs.List.{flat_map}
use Rattle.std.specs.Result.{result_and}
use Rattle.flex_io.specs.declared.fault.Fault.{Fault}
use Rattle.flex_io.specs.declared.raw_place.RawPlace.{RawPlace}
use Rattle.returned_slots.specs.RackStates.{RackState}
use Rattle.returned_slots.specs.Returns.{Returns}
use Rattle.returned_slots.proofs.ReturnLemmas.{returns-none, returns-then}

-- the slots of the first elements went back, and the rest is left
pub record ReturningEach {A S T : Type 0} (place_of : S → RawPlace) (content : S → Option (List ℕ)) (slots : A → List S) (all rest : List A) (outcome : Result T Fault) (old now : RackState)
    : Type 0 where
  pub done : List A
  pub split : done ++ rest ≡ all
  pub returns : Returns place_of content (flat_map slots done) outcome old now

module _ {A S : Type 0} (place_of : S → RawPlace) (content : S → Option (List ℕ)) (slots : A → List S) where
  pub each-none : {T : Type 0} (all : List A) (done : T) (old : RackState) → ReturningEach place_of content slots all all (Ok done) old old
  each-none all done old = record { done = []; split = refl; returns = returns-none place_of content done old }

  -- the slots of the last element of those that are left in a stack went back
  pub each-next : {T : Type 0} (all stack less : List A) (x : A) (own : List S) (outcome put both : Result T Fault) (old mid now : RackState) → stack ≡ less ++ x ∷ []
      → ReturningEach place_of content slots all (reverse stack) outcome old mid → Returns place_of content own put mid now → own ≡ slots x
      → both ≡ result_and outcome put → ReturningEach place_of content slots all (reverse less) both old now
  each-next all stack less x own outcome put both old mid now top before one same is = record {
    done = before.done ++ x ∷ [];
    split = append_assoc before.done (x ∷ []) (reverse less) ∙ ap (λ rest. before.done ++ rest) (sym (ap reverse top ∙ reverse-append less (x ∷ []))) ∙ before.split;
    returns = subst (λ l. Returns place_of content l both old now)
        (sym (flat_map-append slots before.done (x ∷ []) ∙ ap (λ l. flat_map slots before.done ++ l) (append-nil (slots x))))
        (returns-then place_of content (flat_map slots before.done) (slots x) outcome put both old mid now before.returns (subst (λ l. Returns place_of content l put mid now) same one) is);
  }

  pub each-all : {T : Type 0} (all stack : List A) (outcome : Result T Fault) (old now : RackState) → stack ≡ [] → ReturningEach place_of content slots all (reverse stack) outcome old now
      → Returns place_of content (flat_map slots all) outcome old now
  each-all all stack outcome old now none known =
      subst (λ l. Returns place_of content (flat_map slots l) outcome old now) (sym (append-nil known.done) ∙ ap (λ rest. known.done ++ reverse rest) (sym none) ∙ known.split) known.returns
