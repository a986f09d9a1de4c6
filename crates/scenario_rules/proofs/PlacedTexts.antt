-- Texts read at their places.
use Rattle.std.proofs.Common.{◌≡◌, ℕ, ◌+◌, ◌<◌, ◌≤◌, List, [], ◌∷◌, ◌++◌, length, get_or, drop, Result, Ok, Err, true, refl, sym, ap, ◌∙◌, subst, inl, inr, append_assoc}
use Rattle.std.specs.Result.{IfErr, IsErrAnd, OnOk, is_ok}
use Rattle.std.proofs.lemmas.List.{append-nil, drop_all, drop_more}
use Rattle.operation_rules.specs.declared.place.Place.{Place}
use Rattle.operation_rules.specs.declared.place.PlacedOp.{PlacedOp}
use Rattle.operation_text.specs.NamedOps.{SpellsOp}
use Rattle.operation_text.specs.declared.named_op.NamedOp.{NamedOp}
use Rattle.scenario_rules.specs.Actors.{at}
use Rattle.scenario_rules.specs.Places.{script_places, all_places, SpellsOnly, AreOps, IsFirstNoOp, IsOpStop, AreMoreOps}
use Rattle.scenario_rules.specs.declared.placing.OpStop.{OpStop}
use Rattle.scenario_rules.specs.declared.placing.OpStop.TheVariants.{NoOp, NoMemory}

pub on_ok : {T E P : Type 0} (r : Result T E) → is_ok r ≡ true → OnOk r P → P
on_ok (Ok x) ok holds = holds
on_ok (Err e) ok holds = absurd cc

pub drop-here : {T : Type 0} (xs : List T) (i : ℕ) (x : T) → i < length xs → x ≡ get_or xs i x → drop i xs ≡ x ∷ drop (i + 1) xs
drop-here xs i x within is = drop_more xs i x within ∙ ap (λ y. y ∷ drop (i + 1) xs) (sym is)

-- of all texts these are left, and the operations of the others were added
pub record Placing (all left : List (Place × List ℕ)) (old now : List PlacedOp) : Type 0 where
  pub new : List PlacedOp
  pub joined : now ≡ old ++ new
  pub found : (rest : List PlacedOp) → AreOps left rest → AreOps all (new ++ rest)
  pub stop : (p : Place) → IsFirstNoOp left p → IsFirstNoOp all p

pub Placing-start : (all left : List (Place × List ℕ)) (old now : List PlacedOp) → left ≡ all → now ≡ old → Placing all left old now
Placing-start all left old now same empty = record {
  new = [];
  joined = empty ∙ sym (append-nil old);
  found = λ rest are. subst (λ ps. AreOps ps rest) same are;
  stop = λ p first. subst (λ ps. IsFirstNoOp ps p) same first;
}

AreOps-append : (ps qs : List (Place × List ℕ)) (xs ys : List PlacedOp) → AreOps ps xs → AreOps qs ys → AreOps (ps ++ qs) (xs ++ ys)
AreOps-append [] qs [] ys a b = b
AreOps-append [] qs (x ∷ xs) ys a b = absurd a
AreOps-append (p ∷ ps) qs [] ys a b = absurd a
AreOps-append (p ∷ ps) qs (x ∷ xs) ys a b = (a.0, AreOps-append ps qs xs ys a.1 b)

-- past texts that are operations
first-past : (ps qs : List (Place × List ℕ)) (xs : List PlacedOp) (place : Place) → AreOps ps xs → IsFirstNoOp qs place → IsFirstNoOp (ps ++ qs) place
first-past [] qs [] place a first = first
first-past [] qs (x ∷ xs) place a first = absurd a
first-past (p ∷ ps) qs [] place a first = absurd a
first-past (p ∷ ps) qs (x ∷ xs) place a first = inr ((x.what, a.0.1.spells), first-past ps qs xs place a.1 first)

first-within : (ps qs : List (Place × List ℕ)) (place : Place) → IsFirstNoOp ps place → IsFirstNoOp (ps ++ qs) place
first-within [] qs place first = absurd first
first-within (p ∷ ps) qs place first =
    elim first [ inl here ↦ inl here | inr later ↦ inr (later.0, first-within ps qs place later.1) ]

-- one actor's operations were added
pub Placing-script : (all left script after : List (Place × List ℕ)) (old now next : List PlacedOp) → left ≡ script ++ after → AreMoreOps script now next
    → Placing all left old now → Placing all after old next
Placing-script all left script after old now next split more so = record {
  new = so.new ++ more.more;
  joined = more.joined ∙ (ap (λ xs. xs ++ more.more) so.joined ∙ append_assoc old so.new more.more);
  found = λ rest are.
      let whole : AreOps left (more.more ++ rest) = subst (λ ps. AreOps ps (more.more ++ rest)) (sym split) (AreOps-append script after more.more rest more.are are) in
      subst (AreOps all) (sym (append_assoc so.new more.more rest)) (so.found (more.more ++ rest) whole);
  stop = λ p first. so.stop p (subst (λ ps. IsFirstNoOp ps p) (sym split) (first-past script after more.more p more.are first));
}

-- one operation was added
pub Placing-step : (all left after : List (Place × List ℕ)) (old now next : List PlacedOp) (p : Place × List ℕ) (x : PlacedOp) → left ≡ p ∷ after → next ≡ now ++ x ∷ []
    → x.place ≡ p.0 → SpellsOnly p.1 x.what → Placing all left old now → Placing all after old next
Placing-step all left after old now next p x split pushed placed spells so =
    let one : AreMoreOps (p ∷ []) now next = record { more = x ∷ []; joined = pushed; are = ((placed, spells), tt) } in
    Placing-script all left (p ∷ []) after old now next split one so

pub Placing-end : (all left : List (Place × List ℕ)) (old now : List PlacedOp) → left ≡ [] → Placing all left old now → AreMoreOps all old now
Placing-end all left old now none so =
    let empty : AreOps left [] = subst (λ ps. AreOps ps []) (sym none) tt in
    record { more = so.new; joined = so.joined; are = subst (AreOps all) (append-nil so.new) (so.found [] empty) }

pub Placing-stopped : (all left after : List (Place × List ℕ)) (old now : List PlacedOp) (p : Place × List ℕ) (place : Place) → left ≡ p ∷ after → place ≡ p.0
    → ((op : NamedOp) → SpellsOp p.1 op → ⊥) → Placing all left old now → IsFirstNoOp all place
Placing-stopped all left after old now p place split here none so =
    so.stop place (subst (λ ps. IsFirstNoOp ps place) (sym split) (inl (here, none)))

pub Placing-script_stopped : (all left script after : List (Place × List ℕ)) (old now : List PlacedOp) (place : Place) → left ≡ script ++ after → IsFirstNoOp script place
    → Placing all left old now → IsFirstNoOp all place
Placing-script_stopped all left script after old now place split first so =
    so.stop place (subst (λ ps. IsFirstNoOp ps place) (sym split) (first-within script after place first))

pub script_places-here : (texts : List (List ℕ)) (i : ℕ) (text : List ℕ) (actor number : ℕ) → i < length texts → text ≡ get_or texts i text
    → script_places (drop i texts) actor number ≡ (at actor number, text) ∷ script_places (drop (i + 1) texts) actor (number + 1)
script_places-here texts i text actor number within is = ap (λ ts. script_places ts actor number) (drop-here texts i text within is)

pub all_places-here : (actors : List (List (List ℕ))) (i : ℕ) (texts : List (List ℕ)) (actor : ℕ) → i < length actors → texts ≡ get_or actors i texts
    → all_places (drop i actors) actor ≡ script_places texts actor 1 ++ all_places (drop (i + 1) actors) (actor + 1)
all_places-here actors i texts actor within is = ap (λ ts. all_places ts actor) (drop-here actors i texts within is)

-- past the last text, and past the last actor
pub script_places-past : (texts : List (List ℕ)) (i actor number : ℕ) → length texts ≤ i → script_places (drop i texts) actor number ≡ []
script_places-past texts i actor number past = ap (λ ts. script_places ts actor number) (drop_all i texts past)

pub all_places-past : (actors : List (List (List ℕ))) (i actor : ℕ) → length actors ≤ i → all_places (drop i actors) actor ≡ []
all_places-past actors i actor past = ap (λ ts. all_places ts actor) (drop_all i actors past)

-- what stopped one actor's reading stopped the whole
script_stop : (e : OpStop) (all left script after : List (Place × List ℕ)) (old now : List PlacedOp) → left ≡ script ++ after → IsOpStop script e → Placing all left old now → IsOpStop all e
script_stop (NoOp place) all left script after old now split first so = Placing-script_stopped all left script after old now place split first so
script_stop NoMemory all left script after old now split first so = tt

pub stopped_too : {T : Type 0} (r : Result T OpStop) (e : OpStop) (all left script after : List (Place × List ℕ)) (old now : List PlacedOp) → IsErrAnd r (λ f. f ≡ e)
    → left ≡ script ++ after → IsOpStop script e → Placing all left old now → IfErr r (IsOpStop all)
stopped_too (Ok x) e all left script after old now failed split first so = absurd failed
stopped_too (Err f) e all left script after old now failed split first so =
    subst (λ (g : OpStop). IsOpStop all g) (sym failed) (script_stop e all left script after old now split first so)

pub all_read : (all : List (Place × List ℕ)) (now : List PlacedOp) → AreMoreOps all [] now → AreOps all now
all_read all now read = subst (AreOps all) (sym read.joined) read.are

-- the operations of an actor were added, whose texts were given so
pub Placing-actor : (all left after : List (Place × List ℕ)) (old now next : List PlacedOp) (texts given : List (List ℕ)) (actor : ℕ) → given ≡ texts
    → left ≡ script_places texts actor 1 ++ after → AreMoreOps (script_places given actor 1) now next → Placing all left old now → Placing all after old next
Placing-actor all left after old now next texts given actor same split more so =
    Placing-script all left (script_places texts actor 1) after old now next split (subst (λ (t : List (List ℕ)). AreMoreOps (script_places t actor 1) now next) same more) so
