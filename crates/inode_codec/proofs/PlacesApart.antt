-- What differs from all before it, and what differs from all behind it.
use Rattle.std.proofs.Common.{◌≡◌, Bool, true, false, ◌||◌, not, List, [], ◌∷◌, ◌++◌, refl, sym, ◌∙◌}
use Rattle.std.specs.List.{AllByRecursion, list_any}
use Rattle.std.proofs.lemmas.List.Folds.{list_any-append}

pub not-true : (t : Bool) → not t ≡ true → t ≡ false
not-true true h = absurd cc
not-true false h = refl

pub true-not : (t : Bool) → t ≡ false → not t ≡ true
true-not true h = absurd cc
true-not false h = refl

neither : (a b : Bool) → (a || (b || false)) ≡ false → (a ≡ false) × (b ≡ false)
neither true b h = absurd cc
neither false true h = absurd cc
neither false false h = (refl, refl)

both_false : (a b : Bool) → a ≡ false → b ≡ false → (a || (b || false)) ≡ false
both_false true b h k = absurd cc
both_false false true h k = absurd cc
both_false false false h k = refl

module _ {A : Type 0} where
  all_so : (P Q : A → Type 0) → ((x : A) → P x → Q x) → (xs : List A) → AllByRecursion P xs → AllByRecursion Q xs
  all_so P Q so [] all = tt
  all_so P Q so (x ∷ xs) all = (so x all.0, all_so P Q so xs all.1)

  both_so : (P Q R : A → Type 0) → ((x : A) → P x → Q x → R x) → (xs : List A) → AllByRecursion P xs → AllByRecursion Q xs → AllByRecursion R xs
  both_so P Q R so [] p q = tt
  both_so P Q R so (x ∷ xs) p q = (so x p.0 q.0, both_so P Q R so xs p.1 q.1)

  -- one of these clashes with y
  abbrev pub seen : (A → A → Bool) → List A → A → Bool
  seen clash before y = list_any (λ (e : A). clash e y) before

  -- each clashes with none of those before it
  abbrev pub Fresh : (A → A → Bool) → List A → List A → Type 0
  Fresh clash before [] = Unit {0}
  Fresh clash before (x ∷ xs) = (seen clash before x ≡ false) × Fresh clash (before ++ x ∷ []) xs

  -- each clashes with none of those behind it
  abbrev pub Apart : (A → A → Bool) → List A → Type 0
  Apart clash [] = Unit {0}
  Apart clash (x ∷ xs) = AllByRecursion (λ (y : A). clash x y ≡ false) xs × Apart clash xs

  parts : (clash : A → A → Bool) (before : List A) (x y : A) → seen clash (before ++ x ∷ []) y ≡ false → (seen clash before y ≡ false) × (clash x y ≡ false)
  parts clash before x y h = neither (seen clash before y) (clash x y) (sym (list_any-append (λ (e : A). clash e y) before (x ∷ [])) ∙ h)

  whole : (clash : A → A → Bool) (before : List A) (x y : A) → seen clash before y ≡ false → clash x y ≡ false → seen clash (before ++ x ∷ []) y ≡ false
  whole clash before x y h k = list_any-append (λ (e : A). clash e y) before (x ∷ []) ∙ both_false (seen clash before y) (clash x y) h k

  pub fresh-apart : (clash : A → A → Bool) (before xs : List A) → Fresh clash before xs → Apart clash xs × AllByRecursion (λ (y : A). seen clash before y ≡ false) xs
  fresh-apart clash before [] fresh = (tt, tt)
  fresh-apart clash before (x ∷ xs) fresh =
      let later = fresh-apart clash (before ++ x ∷ []) xs fresh.1 in (
        (all_so (λ (y : A). seen clash (before ++ x ∷ []) y ≡ false) (λ (y : A). clash x y ≡ false) (λ y h. (parts clash before x y h).1) xs later.1, later.0),
        (fresh.0, all_so (λ (y : A). seen clash (before ++ x ∷ []) y ≡ false) (λ (y : A). seen clash before y ≡ false) (λ y h. (parts clash before x y h).0) xs later.1),
      )

  pub apart-fresh : (clash : A → A → Bool) (before xs : List A) → Apart clash xs → AllByRecursion (λ (y : A). seen clash before y ≡ false) xs → Fresh clash before xs
  apart-fresh clash before [] apart none = tt
  apart-fresh clash before (x ∷ xs) apart none = (
    none.0,
    apart-fresh clash (before ++ x ∷ []) xs apart.1
        (both_so (λ (y : A). seen clash before y ≡ false) (λ (y : A). clash x y ≡ false) (λ (y : A). seen clash (before ++ x ∷ []) y ≡ false) (λ y h k. whole clash before x y h k) xs none.1 apart.0),
  )

  -- nothing was before the first
  pub none_before : (clash : A → A → Bool) (xs : List A) → AllByRecursion (λ (y : A). seen clash [] y ≡ false) xs
  none_before clash [] = tt
  none_before clash (x ∷ xs) = (refl, none_before clash xs)
