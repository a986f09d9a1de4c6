-- Sets of names, and lists of them.
use Rattle.std.proofs.Common.{◌≡◌, ℕ, List, [], ◌∷◌, ◌++◌, Bool, true, false, cond, ◌||◌, not, Result, Ok, Err, subst, refl, sym, ap, ◌∙◌, append_assoc}
use Rattle.std.specs.BTreeSet.{BTreeSet, UpdatesBy, contains_text}
use Rattle.std.specs.Cmp.Lexicographic.{slice_cmp}
use Rattle.std.specs.Ordering.{nat_cmp}
use Rattle.std.specs.Result.{IfOk, OnOk, IsErrAnd, MatchResult}
use Rattle.std.specs.Prelude.{String, string_bytes}
use Rattle.std.specs.Str.{bytes_eq}
use Rattle.std.specs.String.{string_cmp}
use Rattle.std.specs.declared.alloc.Global.{Global}
use Rattle.std.proofs.lemmas.Map.Text.{btree_set_updates_text}
use Rattle.operation_rules.specs.OpRules.{has_name}

cond-or : (b c : Bool) → cond b true c ≡ (b || c)
cond-or true c = refl
cond-or false c = refl

-- the set after a name was put in
inserted : (bytes name : List ℕ) (s n : BTreeSet (String Global)) → bytes ≡ name → UpdatesBy string_cmp (λ k. slice_cmp nat_cmp bytes (string_bytes k)) s n true
    → (q : List ℕ) → contains_text n q ≡ (bytes_eq name q || contains_text s q)
inserted bytes name s n same updates q =
    btree_set_updates_text bytes s n true updates q ∙ (cond-or (bytes_eq bytes q) (contains_text s q) ∙ ap (λ (x : List ℕ). bytes_eq x q || contains_text s q) same)

or-false : (b : Bool) → (b || false) ≡ b
or-false true = refl
or-false false = refl

-- no name was put in yet
pub none_in : (b c : Bool) → c ≡ false → (b || c) ≡ b
none_in b c none = ap (λ (x : Bool). b || x) none ∙ or-false b

-- one name more is in, and one less is to come
pub moved : (rest here old new : Bool) → new ≡ (here || old) → (rest || new) ≡ ((here || rest) || old)
moved true true old new is = refl
moved true false old new is = refl
moved false true old new is = is
moved false false old new is = is

pub has_name-append : (xs ys : List (List ℕ)) (q : List ℕ) → has_name (xs ++ ys) q ≡ (has_name xs q || has_name ys q)
has_name-append [] ys q = refl
has_name-append (x ∷ xs) ys q = more (bytes_eq x q) (has_name xs q) (has_name ys q) (has_name (xs ++ ys) q) (has_name-append xs ys q)
  where
    more : (here a b c : Bool) → c ≡ (a || b) → (here || c) ≡ ((here || a) || b)
    more true a b c is = refl
    more false a b c is = is

-- what holds of an answer holds of it after its error was mapped
pub mapped_if : {T E D : Type 0} (r : Result T E) (m : Result T D) (Q : E → D → Type 0) (P : T → Type 0) → MatchResult r (λ x. m ≡ Ok x) (λ e. IsErrAnd m (Q e))
    → IfOk r P → IfOk m P
mapped_if (Ok x) m Q P is holds = subst (λ y. IfOk y P) (sym is) holds
mapped_if (Err e) (Ok y) Q P is holds = absurd is
mapped_if (Err e) (Err d) Q P is holds = tt

pub mapped_on : {T E D : Type 0} (r : Result T E) (m : Result T D) (Q : E → D → Type 0) (P : Type 0) → MatchResult r (λ x. m ≡ Ok x) (λ e. IsErrAnd m (Q e))
    → OnOk r P → OnOk m P
mapped_on (Ok x) m Q P is holds = subst (λ y. OnOk y P) (sym is) holds
mapped_on (Err e) (Ok y) Q P is holds = absurd is
mapped_on (Err e) (Err d) Q P is holds = tt

pub new_at : {E : Type 0} (r : Result Bool E) (bytes name : List ℕ) (s : BTreeSet (String Global)) → bytes ≡ name → IfOk r (λ added. added ≡ not (contains_text s bytes))
    → IfOk r (λ added. added ≡ not (contains_text s name))
new_at (Ok x) bytes name s same is = is ∙ ap (λ (b : List ℕ). not (contains_text s b)) same
new_at (Err e) bytes name s same is = tt

pub inserted_at : {E : Type 0} (r : Result Bool E) (bytes name : List ℕ) (s n : BTreeSet (String Global)) → bytes ≡ name
    → OnOk r (UpdatesBy string_cmp (λ k. slice_cmp nat_cmp bytes (string_bytes k)) s n true) → OnOk r ((q : List ℕ) → contains_text n q ≡ (bytes_eq name q || contains_text s q))
inserted_at (Ok x) bytes name s n same updates = inserted bytes name s n same updates
inserted_at (Err e) bytes name s n same updates = tt
