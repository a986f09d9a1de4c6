-- Places that are put into a set, one after the other.
use Rattle.std.proofs.Common.{◌≡◌, ℕ, ◌-◌, ◌≤◌, Bool, true, false, ◌||◌, List, [], ◌∷◌, length, take, drop, get_or, Result, Ok, Err, IfOk, refl, sym, ap, subst, ◌∙◌, arith}
use Rattle.std.proofs.lemmas.List.{take_all}
use Rattle.std.specs.List.{AllByRecursion, list_any}
use Rattle.std.specs.BTreeSet.{BTreeSet}
use Rattle.std.proofs.lemmas.Bool.{or_from, or_parts}
use Rattle.domains.specs.Place.{Place, IsPlace, same_place}
use Rattle.domains.proofs.DriveLemmas.{same_place-sym}
use Rattle.stale_changes.specs.PlaceMarks.{AreMarked, AreNew, is_marked}

or-turned : (a b c : Bool) → (a || (b || c)) ≡ ((b || a) || c)
or-turned true true c = refl
or-turned true false c = refl
or-turned false true c = refl
or-turned false false c = refl

-- a new place, and then the others
pub marked_cons : (s : Place) (ss : List Place) (old mid new : BTreeSet ℕ) → AllByRecursion IsPlace (s ∷ ss) → is_marked old s ≡ false
    → ((t : Place) → IsPlace t → is_marked mid t ≡ (same_place t s || is_marked old t)) → AreMarked ss mid new → AreMarked (s ∷ ss) old new
marked_cons s ss old mid new are here step rest = record {
  marked = λ t is. rest.marked t is ∙ ap (λ (b : Bool). list_any (same_place t) ss || b) (step t is) ∙ or-turned (list_any (same_place t) ss) (same_place t s) (is_marked old t);
  were_new = record {
    distinct = (apart ss are.1 rest.were_new.fresh, rest.were_new.distinct);
    fresh = (here, before ss are.1 rest.were_new.fresh);
  };
}
  where
    parts : (t : Place) → IsPlace t → is_marked mid t ≡ false → (same_place t s ≡ false) × (is_marked old t ≡ false)
    parts t is unmarked = or_parts (same_place t s) (is_marked old t) (sym (step t is) ∙ unmarked)

    apart : (ts : List Place) → AllByRecursion IsPlace ts → AllByRecursion (λ (t : Place). is_marked mid t ≡ false) ts → AllByRecursion (λ (t : Place). same_place s t ≡ false) ts
    apart [] are all = tt
    apart (t ∷ ts) are all = (same_place-sym s t ∙ (parts t are.0 all.0).0, apart ts are.1 all.1)

    before : (ts : List Place) → AllByRecursion IsPlace ts → AllByRecursion (λ (t : Place). is_marked mid t ≡ false) ts → AllByRecursion (λ (t : Place). is_marked old t ≡ false) ts
    before [] are all = tt
    before (t ∷ ts) are all = ((parts t are.0 all.0).1, before ts are.1 all.1)

-- the places, taken apart
pub places_cons : (ss : List Place) (s : Place) → 1 ≤ length ss → s ≡ get_or ss 0 s → ss ≡ s ∷ take (length ss - 1) (drop 1 ss)
places_cons [] s some is = absurd (omega (arith, some))
places_cons (x ∷ xs) s some is =
    let all : length xs ≤ length (x ∷ xs) - 1 = omega arith in
    ap (λ (l : List Place). x ∷ l) (sym (take_all (length (x ∷ xs) - 1) xs all))
    ∙ ap (λ (y : Place). y ∷ take (length (x ∷ xs) - 1) xs) (sym is)

-- what is answered for the others is answered for all
pub marked_step : {E : Type 0} (r : Result Bool E) (all rest : List Place) (s : Place) (old mid new : BTreeSet ℕ) → all ≡ s ∷ rest → AllByRecursion IsPlace all
    → is_marked old s ≡ false → ((t : Place) → IsPlace t → is_marked mid t ≡ (same_place t s || is_marked old t))
    → IfOk r (λ (b : Bool). b ≡ true → AreMarked rest mid new) → IfOk r (λ (b : Bool). b ≡ true → AreMarked all old new)
marked_step (Ok b) all rest s old mid new is are here step marked =
    λ yes_all. subst (λ (ss : List Place). AreMarked ss old new) (sym is)
    (marked_cons s rest old mid new (subst (AllByRecursion IsPlace) is are) here step (marked yes_all))
marked_step (Err e) all rest s old mid new is are here step marked = tt

-- new places are so behind the first of them
pub new_behind : (s : Place) (ss : List Place) (old mid : BTreeSet ℕ) → AllByRecursion IsPlace (s ∷ ss)
    → ((t : Place) → IsPlace t → is_marked mid t ≡ (same_place t s || is_marked old t)) → AreNew (s ∷ ss) old → AreNew ss mid
new_behind s ss old mid are step new = record { distinct = new.distinct.1; fresh = each ss are.1 new.distinct.0 new.fresh.1 }
  where
    each : (ts : List Place) → AllByRecursion IsPlace ts → AllByRecursion (λ (t : Place). same_place s t ≡ false) ts → AllByRecursion (λ (t : Place). is_marked old t ≡ false) ts
        → AllByRecursion (λ (t : Place). is_marked mid t ≡ false) ts
    each [] are apart unmarked = tt
    each (t ∷ ts) are apart unmarked = (
      step t are.0 ∙ or_from (same_place t s) (is_marked old t) (same_place-sym t s ∙ apart.0) unmarked.0,
      each ts are.1 apart.1 unmarked.1,
    )

-- if the others are let in where they are new, so are all
pub accepted_step : {E : Type 0} (r : Result Bool E) (all rest : List Place) (s : Place) (old mid : BTreeSet ℕ) → all ≡ s ∷ rest → AllByRecursion IsPlace all
    → ((t : Place) → IsPlace t → is_marked mid t ≡ (same_place t s || is_marked old t))
    → IfOk r (λ (b : Bool). AreNew rest mid → b ≡ true) → IfOk r (λ (b : Bool). AreNew all old → b ≡ true)
accepted_step (Ok b) all rest s old mid is are step accepts =
    λ new. accepts (new_behind s rest old mid (subst (AllByRecursion IsPlace) is are) step (subst (λ (ss : List Place). AreNew ss old) is new))
accepted_step (Err e) all rest s old mid is are step accepts = tt
