-- Drives and places that are the same, and lists of drives.
use Rattle.std.proofs.Common.{◌≡◌, ℕ, ◌<◌, Bool, true, false, cond, ◌||◌, List, [], ◌∷◌, ◌++◌, take, map, length, get_or, zero, suc, refl, sym, ap, subst, ◌∙◌, inl, inr, arith}
use Rattle.std.proofs.lemmas.Bool.{and_parts, and_from, eqb-true, eq-eqb, cases_Bool, both_ways, false_from_ne_true}
use Rattle.domains.specs.Drive.{Drive, same_drive, is_in}
use Rattle.domains.specs.Place.{Place, same_place}

-- drives with the same numbers are one
pub same_drive-eq : (a b : Drive) → same_drive a b ≡ true → a ≡ b
same_drive-eq a b same =
    let both = and_parts _ _ same in
    let nodes : a.node ≡ b.node = eqb-true a.node b.node both.0 in
    let drives : a.drive ≡ b.drive = eqb-true a.drive b.drive both.1 in
    λ i. record { node = nodes i; drive = drives i }

pub same_drive-self : (a : Drive) → same_drive a a ≡ true
same_drive-self a = and_from _ _ (eq-eqb a.node a.node refl) (eq-eqb a.drive a.drive refl)

-- drives that are one have the same numbers
pub eq-same_drive : (a b : Drive) → a ≡ b → same_drive a b ≡ true
eq-same_drive a b same = subst (λ (d : Drive). same_drive a d ≡ true) same (same_drive-self a)

pub same_drive-sym : (a b : Drive) → same_drive a b ≡ same_drive b a
same_drive-sym a b = elim (cases_Bool (same_drive a b)) [
  | inl same ↦ same ∙ sym (eq-same_drive b a (sym (same_drive-eq a b same)))
  | inr other ↦ other ∙ sym (false_from_ne_true (same_drive b a) (λ same. both_ways _ other (eq-same_drive a b (sym (same_drive-eq b a same)))))
]

-- two drives that are the same as a third are the same
pub same_drive-both : (a b c : Drive) → same_drive a c ≡ true → same_drive b c ≡ true → same_drive a b ≡ true
same_drive-both a b c first second = eq-same_drive a b (same_drive-eq a c first ∙ sym (same_drive-eq b c second))

-- places with the same numbers are one
pub same_place-eq : (a b : Place) → same_place a b ≡ true → a ≡ b
same_place-eq a b same =
    let both = and_parts _ _ same in
    let drives : a.drive ≡ b.drive = same_drive-eq a.drive b.drive both.0 in
    let slots : a.slot ≡ b.slot = eqb-true a.slot b.slot both.1 in
    λ i. record { drive = drives i; slot = slots i }

pub same_place-self : (a : Place) → same_place a a ≡ true
same_place-self a = and_from _ _ (same_drive-self a.drive) (eq-eqb a.slot a.slot refl)

-- places that are one have the same numbers
pub eq-same_place : (a b : Place) → a ≡ b → same_place a b ≡ true
eq-same_place a b same = subst (λ (s : Place). same_place a s ≡ true) same (same_place-self a)

pub same_place-sym : (a b : Place) → same_place a b ≡ same_place b a
same_place-sym a b = elim (cases_Bool (same_place a b)) [
  | inl same ↦ same ∙ sym (eq-same_place b a (sym (same_place-eq a b same)))
  | inr other ↦ other ∙ sym (false_from_ne_true (same_place b a) (λ same. both_ways _ other (eq-same_place a b (sym (same_place-eq b a same)))))
]

-- what the first drive does not settle, the others do
first_or : (b c e f : Bool) → c ≡ (e || f) → cond b true c ≡ (cond b true e || f)
first_or true c e f h = refl
first_or false c e f h = h

-- a list made of two has what either has
pub is_in-append : (xs ys : List Drive) (d : Drive) → is_in (xs ++ ys) d ≡ (is_in xs d || is_in ys d)
is_in-append [] ys d = refl
is_in-append (x ∷ xs) ys d = first_or (same_drive x d) _ _ _ (is_in-append xs ys d)

or_cond : (b c : Bool) → (b || cond c true false) ≡ (b || c)
or_cond true c = refl
or_cond false true = refl
or_cond false false = refl

-- one more drive at the end
pub is_in-push : (xs : List Drive) (x d : Drive) → is_in (xs ++ x ∷ []) d ≡ (is_in xs d || same_drive x d)
is_in-push xs x d = is_in-append xs (x ∷ []) d ∙ or_cond (is_in xs d) (same_drive x d)

pub is_in-first : (x : Drive) (xs : List Drive) → is_in (x ∷ xs) x ≡ true
is_in-first x xs = ap (λ b. cond b true (is_in xs x)) (same_drive-self x)

or_rest : (b c : Bool) → c ≡ true → cond b true c ≡ true
or_rest true c h = refl
or_rest false c h = h

-- what the rest of a list has, the list has
pub is_in-rest : (x : Drive) (xs : List Drive) (d : Drive) → is_in xs d ≡ true → is_in (x ∷ xs) d ≡ true
is_in-rest x xs d there = or_rest (same_drive x d) _ there

-- what is not in a list is not in its rest
pub is_in-none : (x : Drive) (xs : List Drive) (d : Drive) → is_in (x ∷ xs) d ≡ false → (same_drive x d ≡ false) × (is_in xs d ≡ false)
is_in-none x xs d out = elim (cases_Bool (same_drive x d)) [
  | inl here ↦ absurd (both_ways _ out (ap (λ b. cond b true (is_in xs d)) here))
  | inr other ↦ (other, sym (ap (λ b. cond b true (is_in xs d)) other) ∙ out)
]

in_rest : (b c e : Bool) → (c ≡ true → e ≡ true) → cond b true c ≡ true → cond b true e ≡ true
in_rest true c e h k = refl
in_rest false c e h k = h k

-- what a prefix of a list has, the list has
pub is_in-take : (n : ℕ) (xs : List Drive) (d : Drive) → is_in (take n xs) d ≡ true → is_in xs d ≡ true
is_in-take zero [] d h = h
is_in-take zero (x ∷ xs) d h = absurd (both_ways false refl h)
is_in-take (suc n) [] d h = h
is_in-take (suc n) (x ∷ xs) d h = in_rest (same_drive x d) _ _ (is_in-take n xs d) h

-- a list of things has the drive of each
pub is_in-at : {X : Type 0} (drive : X → Drive) (xs : List X) (k : ℕ) (default : X) → k < length xs
    → is_in (map drive xs) (drive (get_or xs k default)) ≡ true
is_in-at drive [] k default within = absurd (omega (arith, within))
is_in-at drive (x ∷ xs) zero default within = is_in-first (drive x) (map drive xs)
is_in-at drive (x ∷ xs) (suc k) default within = is_in-rest (drive x) (map drive xs) _ (is_in-at drive xs k default (omega (arith, within)))
