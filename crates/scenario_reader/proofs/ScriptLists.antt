-- The operations of actors, added one by one.
use Rattle.std.proofs.Common.{◌≡◌, ℕ, zero, suc, ◌+◌, ◌-◌, ◌<◌, ◌==◌, List, [], ◌∷◌, ◌++◌, length, get_or, replicate, Bool, true, false, cond, Option, Some, None, Result, Ok, Err, refl, sym, subst, ◌∙◌, ap, append_assoc, arith}
use Rattle.std.proofs.lemmas.List.{append-nil}
use Rattle.std.proofs.lemmas.List.Elements.{All-head, All-tail}
use Rattle.std.proofs.lemmas.Bool.Decides.{nat_tests}
use Rattle.operation_rules.specs.declared.place.PlacedOp.{PlacedOp}
use Rattle.operation_rules.specs.FirstPlaces.{first_where}
use Rattle.operation_rules.specs.OpRules.{is_outside}
use Rattle.scenario_reader.specs.Resolved.{IsActor, op_of, pushed, script_in, scripts_in}
use Rattle.domains.specs.Shape.{Shape}
use Rattle.operation_rules.specs.declared.place.Place.{Place}
use Rattle.std.specs.Prelude.{All, OnOk, slice_set}
use Rattle.std.specs.Result.{is_ok}
use Rattle.whole_scenario.specs.declared.op.Op.{Op}

-- the scripts of the first list, each before the one at its place in the second
abbrev pub joined : List (List Op) → List (List Op) → List (List Op)
joined [] ys = ys
joined (x ∷ xs) [] = x ∷ xs
joined (x ∷ xs) (y ∷ ys) = (x ++ y) ∷ joined xs ys

pub length-pushed : (ss : List (List Op)) (place : ℕ) (o : Op) → length (pushed ss place o) ≡ length ss
length-pushed [] place o = refl
length-pushed (s ∷ ss) zero o = refl
length-pushed (s ∷ ss) (suc place) o = ap suc (length-pushed ss place o)

module _ (files jobs : List (List ℕ)) where
  joined-start : (ops : List PlacedOp) (first n : ℕ) → joined (replicate n []) (scripts_in files jobs ops first n) ≡ scripts_in files jobs ops first n
  joined-start ops first zero = refl
  joined-start ops first (suc n) = ap (λ (ss : List (List Op)). script_in files jobs ops first ∷ ss) (joined-start ops (first + 1) n)

  joined-end : (ss : List (List Op)) (first : ℕ) → joined ss (scripts_in files jobs [] first (length ss)) ≡ ss
  joined-end [] first = refl
  joined-end (s ∷ ss) first =
      ap (λ (r : List (List Op)). (s ++ []) ∷ r) (joined-end ss (first + 1)) ∙ ap (λ (t : List Op). t ∷ ss) (append-nil s)

  -- an operation of another actor is in none of the script
  pub skipped : (x : PlacedOp) (xs : List PlacedOp) (actor : ℕ) → (x.place.actor == actor) ≡ false → script_in files jobs (x ∷ xs) actor ≡ script_in files jobs xs actor
  skipped x xs actor other = rw other refl

  pub taken : (x : PlacedOp) (xs : List PlacedOp) (actor : ℕ) → (x.place.actor == actor) ≡ true → script_in files jobs (x ∷ xs) actor ≡ op_of files jobs x.what ∷ script_in files jobs xs actor
  taken x xs actor same = rw same refl

  pub later : (x : PlacedOp) (xs : List PlacedOp) (first n : ℕ) → x.place.actor < first → scripts_in files jobs (x ∷ xs) first n ≡ scripts_in files jobs xs first n
  later x xs first zero before = refl
  later x xs first (suc n) before =
      let other : (x.place.actor == first) ≡ false = grind (arith, nat_tests) in
      ap (λ (s : List Op). s ∷ scripts_in files jobs (x ∷ xs) (first + 1) n) (skipped x xs first other)
      ∙ ap (λ (ss : List (List Op)). script_in files jobs xs first ∷ ss) (later x xs (first + 1) n (omega (arith, before)))

  joined-step : (ss : List (List Op)) (x : PlacedOp) (xs : List PlacedOp) (first place : ℕ) (o : Op) → o ≡ op_of files jobs x.what → x.place.actor ≡ first + place
      → place < length ss → joined (pushed ss place o) (scripts_in files jobs xs first (length ss)) ≡ joined ss (scripts_in files jobs (x ∷ xs) first (length ss))
  joined-step [] x xs first place o is at within = absurd (omega (arith, within))
  joined-step (s ∷ ss) x xs first zero o is at within =
      let same : (x.place.actor == first) ≡ true = grind (arith, nat_tests) in
      let head : (s ++ o ∷ []) ++ script_in files jobs xs first ≡ s ++ script_in files jobs (x ∷ xs) first =
      append_assoc s (o ∷ []) (script_in files jobs xs first)
      ∙ (ap (λ (p : Op). s ++ p ∷ script_in files jobs xs first) is ∙ ap (λ (r : List Op). s ++ r) (sym (taken x xs first same))) in
      ap (λ (h : List Op). h ∷ joined ss (scripts_in files jobs xs (first + 1) (length ss))) head
      ∙ ap (λ (r : List (List Op)). (s ++ script_in files jobs (x ∷ xs) first) ∷ joined ss r) (sym (later x xs (first + 1) (length ss) (omega (arith, at))))
  joined-step (s ∷ ss) x xs first (suc place) o is at within =
      let other : (x.place.actor == first) ≡ false = grind (arith, nat_tests) in
      ap (λ (h : List Op). (s ++ h) ∷ joined (pushed ss place o) (scripts_in files jobs xs (first + 1) (length ss))) (sym (skipped x xs first other))
      ∙ ap (λ (r : List (List Op)). (s ++ script_in files jobs (x ∷ xs) first) ∷ r)
      (joined-step ss x xs (first + 1) place o is (omega (arith, at)) (omega (arith, within)))

  pub placed-start : (ops left : List PlacedOp) (ss : List (List Op)) (actors : ℕ) → left ≡ ops → ss ≡ replicate actors []
      → joined ss (scripts_in files jobs left 1 actors) ≡ scripts_in files jobs ops 1 actors
  placed-start ops left ss actors all none =
      ap (λ (r : List (List Op)). joined r (scripts_in files jobs left 1 actors)) none ∙ joined-start left 1 actors
      ∙ ap (λ (r : List PlacedOp). scripts_in files jobs r 1 actors) all

  pub placed-step : (all ss new : List (List Op)) (x : PlacedOp) (left after : List PlacedOp) (actors : ℕ) (o : Op) → left ≡ x ∷ after → new ≡ pushed ss (x.place.actor - 1) o
      → o ≡ op_of files jobs x.what → IsActor actors x → length ss ≡ actors → joined ss (scripts_in files jobs left 1 actors) ≡ all
      → joined new (scripts_in files jobs after 1 actors) ≡ all
  placed-step all ss new x left after actors o next is op actor count so_far =
      let some = actor.some in
      let few = actor.few in
      let step = joined-step ss x after 1 (x.place.actor - 1) o op (omega (arith, some)) (omega (arith, some, few, count)) in
      let sized : joined (pushed ss (x.place.actor - 1) o) (scripts_in files jobs after 1 actors) ≡ joined ss (scripts_in files jobs (x ∷ after) 1 actors) =
      subst (λ (n : ℕ). joined (pushed ss (x.place.actor - 1) o) (scripts_in files jobs after 1 n) ≡ joined ss (scripts_in files jobs (x ∷ after) 1 n)) count step in
      ap (λ (r : List (List Op)). joined r (scripts_in files jobs after 1 actors)) is ∙ sized
      ∙ ap (λ (r : List PlacedOp). joined ss (scripts_in files jobs r 1 actors)) (sym next) ∙ so_far

  pub placed-end : (all ss : List (List Op)) (left : List PlacedOp) (actors : ℕ) → left ≡ [] → length ss ≡ actors → joined ss (scripts_in files jobs left 1 actors) ≡ all → ss ≡ all
  placed-end all ss left actors none count so_far =
      sym (subst (λ (n : ℕ). joined ss (scripts_in files jobs [] 1 n) ≡ ss) count (joined-end ss 1))
      ∙ ap (λ (r : List PlacedOp). joined ss (scripts_in files jobs r 1 actors)) (sym none) ∙ so_far

-- the script at a place, with one operation more
pub set-pushed : (ss : List (List Op)) (place : ℕ) (s t : List Op) (o : Op) → place < length ss → s ≡ get_or ss place s → t ≡ s ++ o ∷ [] → slice_set ss place t ≡ pushed ss place o
set-pushed [] place s t o within at is = absurd (omega (arith, within))
set-pushed (s' ∷ ss) zero s t o within at is = ap (λ (r : List Op). r ∷ ss) (is ∙ ap (λ (r : List Op). r ++ o ∷ []) at)
set-pushed (s' ∷ ss) (suc place) s t o within at is = ap (λ (r : List (List Op)). s' ∷ r) (set-pushed ss place s t o (omega (arith, within)) at is)

-- each of some operations is of an actor, and so are the first and the others
pub first_actor : (actors : ℕ) (x : PlacedOp) (left after : List PlacedOp) → left ≡ x ∷ after → All (IsActor actors) left → IsActor actors x
first_actor actors x left after is all = All-head (IsActor actors) x after (subst (λ (xs : List PlacedOp). All (IsActor actors) xs) is all)

pub other_actors : (actors : ℕ) (x : PlacedOp) (left after : List PlacedOp) → left ≡ x ∷ after → All (IsActor actors) left → All (IsActor actors) after
other_actors actors x left after is all = All-tail (IsActor actors) x after (subst (λ (xs : List PlacedOp). All (IsActor actors) xs) is all)

-- the operations after one that is inside
pub inside_next : (shape : Shape) (x : PlacedOp) (left after : List PlacedOp) → left ≡ x ∷ after → first_where (is_outside shape) left ≡ None → first_where (is_outside shape) after ≡ None
inside_next shape x left after is none =
    passed_over (is_outside shape x.what) x.place (first_where (is_outside shape) after) (ap (first_where (is_outside shape)) (sym is) ∙ none)
  where
    passed_over : (b : Bool) (p : Place) (rest : Option Place) → cond b (Some p) rest ≡ None → rest ≡ None
    passed_over true p rest none = absurd cc
    passed_over false p rest none = none

pub none_left : (ops : List PlacedOp) → length ops ≡ 0 → ops ≡ []
none_left [] none = refl
none_left (x ∷ xs) none = absurd (omega (arith, none))

pub on_ok : {T E P : Type 0} (r : Result T E) → is_ok r ≡ true → OnOk r P → P
on_ok (Ok x) ok holds = holds
on_ok (Err e) ok holds = absurd cc
