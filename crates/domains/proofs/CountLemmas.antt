-- Counts of what passes a test.
use Rattle.std.proofs.Common.{◌≡◌, ℕ, ◌+◌, ◌≤◌, Bool, true, false, not, ◌||◌, List, [], ◌∷◌, ◌++◌, take, length, zero, suc, count_by, refl, arith}
use Rattle.std.proofs.lemmas.List.Sums.{sum_by-cons, sum_by-append, sum_by_push}
use Rattle.domains.specs.Counts.{one_if}

pub one_if-or : (a b : Bool) → one_if (a || b) ≤ one_if a + one_if b
one_if-or true true = omega arith
one_if-or true false = omega arith
one_if-or false true = omega arith
one_if-or false false = omega arith

pub one_if-not : (a : Bool) → one_if a + one_if (not a) ≡ 1
one_if-not true = refl
one_if-not false = refl

pub one_if-most : (a : Bool) → one_if a ≤ 1
one_if-most true = omega arith
one_if-most false = omega arith

pub count_by-cons : {X : Type 0} (p : X → Bool) (x : X) (xs : List X) → count_by p (x ∷ xs) ≡ one_if (p x) + count_by p xs
count_by-cons p x xs = sum_by-cons (λ y. one_if (p y)) x xs

pub count_by-push : {X : Type 0} (p : X → Bool) (xs : List X) (x : X) → count_by p (xs ++ x ∷ []) ≡ count_by p xs + one_if (p x)
count_by-push p xs x = sum_by_push (λ y. one_if (p y)) xs x

pub count_by-append : {X : Type 0} (p : X → Bool) (xs ys : List X) → count_by p (xs ++ ys) ≡ count_by p xs + count_by p ys
count_by-append p xs ys = sum_by-append (λ y. one_if (p y)) xs ys

-- at most as many pass one of two tests as pass the one and as pass the other
pub count_by-or : {X : Type 0} (xs : List X) (p q : X → Bool) → count_by (λ x. p x || q x) xs ≤ count_by p xs + count_by q xs
count_by-or [] p q = omega arith
count_by-or (x ∷ xs) p q =
    let first = count_by-cons p x xs in
    let second = count_by-cons q x xs in
    let both = count_by-cons (λ y. p y || q y) x xs in
    let here = one_if-or (p x) (q x) in
    let rest = count_by-or xs p q in
    omega (arith, first, second, both, here, rest)

-- those that pass and those that do not are all
pub count_by-not : {X : Type 0} (xs : List X) (p : X → Bool) → count_by p xs + count_by (λ x. not (p x)) xs ≡ length xs
count_by-not [] p = refl
count_by-not (x ∷ xs) p =
    let passes = count_by-cons p x xs in
    let fails = count_by-cons (λ y. not (p y)) x xs in
    let here = one_if-not (p x) in
    let rest = count_by-not xs p in
    omega (arith, passes, fails, here, rest)

pub count_by-none : {X : Type 0} (xs : List X) → count_by (λ (x : X). false) xs ≡ 0
count_by-none [] = refl
count_by-none {X} (x ∷ xs) = let first = count_by-cons (λ (y : X). false) x xs in let rest = count_by-none xs in omega (arith, first, rest)

-- of a prefix at most as many pass
pub count_by-take : {X : Type 0} (p : X → Bool) (n : ℕ) (xs : List X) → count_by p (take n xs) ≤ count_by p xs
count_by-take p zero [] = omega arith
count_by-take p zero (x ∷ xs) = omega arith
count_by-take p (suc n) [] = omega arith
count_by-take p (suc n) (x ∷ xs) =
    let prefix = count_by-cons p x (take n xs) in
    let all = count_by-cons p x xs in
    let rest = count_by-take p n xs in
    omega (arith, prefix, all, rest)
