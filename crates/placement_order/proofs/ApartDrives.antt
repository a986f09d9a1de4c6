-- Lists in which no drive comes twice.
use Rattle.std.proofs.Common.{◌≡◌, ℕ, suc, zero, ◌+◌, ◌≤◌, Bool, true, false, cond, not, ◌||◌, List, [], ◌∷◌, ◌++◌, filter, length, take, count_by, refl, sym, ap, subst, ◌∙◌, inl, inr, arith}
use Rattle.std.proofs.lemmas.Bool.{cases_Bool, both_ways, false_from_ne_true, not_from_false, or_parts, or_from}
use Rattle.domains.specs.Counts.{one_if}
use Rattle.domains.specs.Drive.{Drive, same_drive, is_in, AreApart}
use Rattle.domains.proofs.DriveLemmas.{same_drive-eq, same_drive-self, same_drive-sym, is_in-push, is_in-first, is_in-rest, is_in-none, is_in-take}
use Rattle.domains.proofs.CountLemmas.{count_by-cons, count_by-not}

-- a drive of a list that does not have this one is another
pub is_another : (xs : List Drive) (x d : Drive) → is_in xs x ≡ false → is_in xs d ≡ true → same_drive x d ≡ false
is_another xs x d out there = false_from_ne_true _ (λ same. both_ways _ out (subst (λ y. is_in xs y ≡ true) (sym (same_drive-eq x d same)) there))

-- what is in the rest of a list, or is its first
pub is_in-later : (x : Drive) (xs : List Drive) (d : Drive) → same_drive x d ≡ false → is_in (x ∷ xs) d ≡ true → is_in xs d ≡ true
is_in-later x xs d other there = sym (ap (λ b. cond b true (is_in xs d)) other) ∙ there

out_from : (x : Drive) (xs : List Drive) (d : Drive) → same_drive x d ≡ false → is_in xs d ≡ false → is_in (x ∷ xs) d ≡ false
out_from x xs d other out = ap (λ b. cond b true (is_in xs d)) other ∙ out

pub apart-push : (xs : List Drive) (x : Drive) → AreApart xs → is_in xs x ≡ false → AreApart (xs ++ x ∷ [])
apart-push [] x apart out = (refl, tt)
apart-push (y ∷ ys) x apart out =
    let parts = is_in-none y ys x out in
    (is_in-push ys x y ∙ or_from (is_in ys y) (same_drive x y) apart.0 (same_drive-sym x y ∙ parts.0), apart-push ys x apart.1 parts.1)

pub apart-take : (n : ℕ) (xs : List Drive) → AreApart xs → AreApart (take n xs)
apart-take zero [] apart = tt
apart-take zero (x ∷ xs) apart = tt
apart-take (suc n) [] apart = tt
apart-take (suc n) (x ∷ xs) apart =
    (false_from_ne_true _ (λ there. both_ways _ apart.0 (is_in-take n xs x there)), apart-take n xs apart.1)

-- a drive of a filtered list is of the list, and passes
pub is_in-filter : (p : Drive → Bool) (xs : List Drive) (d : Drive) → is_in (filter p xs) d ≡ true → (is_in xs d ≡ true) × (p d ≡ true)
is_in-filter p [] d there = absurd (both_ways false refl there)
is_in-filter p (x ∷ xs) d there = elim (cases_Bool (p x)) [
  | inl passes ↦
      let in_all : is_in (x ∷ filter p xs) d ≡ true = sym (ap (λ b. is_in (cond b (x ∷ filter p xs) (filter p xs)) d) passes) ∙ there in
      elim (cases_Bool (same_drive x d)) [
        | inl here ↦ (subst (λ y. is_in (x ∷ xs) y ≡ true) (same_drive-eq x d here) (is_in-first x xs), subst (λ y. p y ≡ true) (same_drive-eq x d here) passes)
        | inr other ↦ let rest = is_in-filter p xs d (is_in-later x (filter p xs) d other in_all) in (is_in-rest x xs d rest.0, rest.1)
      ]
  | inr fails ↦
      let rest = is_in-filter p xs d (sym (ap (λ b. is_in (cond b (x ∷ filter p xs) (filter p xs)) d) fails) ∙ there) in
      (is_in-rest x xs d rest.0, rest.1)
]

pub apart-filter : (p : Drive → Bool) (xs : List Drive) → AreApart xs → AreApart (filter p xs)
apart-filter p [] apart = tt
apart-filter p (x ∷ xs) apart =
    let rest = apart-filter p xs apart.1 in
    elim (cases_Bool (p x)) [
      | inl passes ↦
          subst AreApart (sym (ap (λ b. cond b (x ∷ filter p xs) (filter p xs)) passes))
          (false_from_ne_true _ (λ there. both_ways _ apart.0 (is_in-filter p xs x there).0), rest)
      | inr fails ↦ subst AreApart (sym (ap (λ b. cond b (x ∷ filter p xs) (filter p xs)) fails)) rest
    ]

or_turned : (a b c : Bool) → b ≡ (c || a) → cond a true c ≡ b
or_turned true b true h = sym h
or_turned true b false h = sym h
or_turned false b true h = sym h
or_turned false b false h = sym h

or_moved : (a b c e : Bool) → b ≡ (c || e) → cond a true b ≡ (cond a true c || e)
or_moved true b c e h = refl
or_moved false b c e h = h

-- a list with one more drive in its midst
pub is_in-midst : (xs ys : List Drive) (d e : Drive) → is_in (xs ++ d ∷ ys) e ≡ (is_in (xs ++ ys) e || same_drive d e)
is_in-midst [] ys d e = or_turned (same_drive d e) _ (is_in ys e) refl
is_in-midst (x ∷ xs) ys d e = or_moved (same_drive x e) _ _ (same_drive d e) (is_in-midst xs ys d e)

-- the drive in the midst is none of the others, which are apart
pub apart-without : (xs ys : List Drive) (d : Drive) → AreApart (xs ++ d ∷ ys) → (is_in (xs ++ ys) d ≡ false) × AreApart (xs ++ ys)
apart-without [] ys d apart = apart
apart-without (x ∷ xs) ys d apart =
    let rest = apart-without xs ys d apart.1 in
    let parts = or_parts (is_in (xs ++ ys) x) (same_drive d x) (sym (is_in-midst xs ys d x) ∙ apart.0) in
    (out_from x (xs ++ ys) d (same_drive-sym x d ∙ parts.1) rest.0, (parts.0, rest.1))

pub apart-with : (xs ys : List Drive) (d : Drive) → is_in (xs ++ ys) d ≡ false → AreApart (xs ++ ys) → AreApart (xs ++ d ∷ ys)
apart-with [] ys d out apart = (out, apart)
apart-with (x ∷ xs) ys d out apart =
    let parts = is_in-none x (xs ++ ys) d out in
    (is_in-midst xs ys d x ∙ or_from (is_in (xs ++ ys) x) (same_drive d x) apart.0 (same_drive-sym d x ∙ parts.0), apart-with xs ys d parts.1 apart.1)

-- one that passes counts
pub count_by-some : (p : Drive → Bool) (xs : List Drive) (d : Drive) → is_in xs d ≡ true → p d ≡ true → 1 ≤ count_by p xs
count_by-some p [] d there passes = absurd (both_ways false refl there)
count_by-some p (x ∷ xs) d there passes =
    let all = count_by-cons p x xs in
    elim (cases_Bool (same_drive x d)) [
      | inl here ↦ let one = ap one_if (subst (λ y. p y ≡ true) (sym (same_drive-eq x d here)) passes) in omega (arith, all, one)
      | inr other ↦ let rest = count_by-some p xs d (is_in-later x xs d other there) passes in omega (arith, all, rest)
    ]

one_of_two : (a b : Bool) → (a ≡ true → b ≡ false) → one_if a + one_if b ≤ one_if (cond a true b)
one_of_two true b h = let none = ap one_if (h refl) in omega (arith, none)
one_of_two false b h = omega arith

-- those that are the first drive and those that are of the rest
count_either : (x : Drive) (xs ys : List Drive) → is_in xs x ≡ false
    → count_by (same_drive x) ys + count_by (is_in xs) ys ≤ count_by (is_in (x ∷ xs)) ys
count_either x xs [] out = omega arith
count_either x xs (y ∷ ys) out =
    let first = count_by-cons (same_drive x) y ys in
    let others = count_by-cons (is_in xs) y ys in
    let both = count_by-cons (is_in (x ∷ xs)) y ys in
    let here = one_of_two (same_drive x y) (is_in xs y) (λ same. subst (λ d. is_in xs d ≡ false) (same_drive-eq x y same) out) in
    let rest = count_either x xs ys out in
    omega (arith, first, others, both, here, rest)

-- a list of which each drive is in another list finds them all there
pub length-within : (xs ys : List Drive) → AreApart xs → ((d : Drive) → is_in xs d ≡ true → is_in ys d ≡ true) → length xs ≤ count_by (is_in xs) ys
length-within [] ys apart within = omega arith
length-within (x ∷ xs) ys apart within =
    let one = count_by-some (same_drive x) ys x (within x (is_in-first x xs)) (same_drive-self x) in
    let rest = length-within xs ys apart.1 (λ d there. within d (is_in-rest x xs d there)) in
    let both = count_either x xs ys apart.0 in
    omega (arith, one, rest, both)

-- a list of which each drive is in another list, and which is as long, has each drive of that
pub is_in-all : (xs ys : List Drive) → AreApart xs → ((d : Drive) → is_in xs d ≡ true → is_in ys d ≡ true) → length ys ≤ length xs
    → (d : Drive) → is_in ys d ≡ true → is_in xs d ≡ true
is_in-all xs ys apart within long d there = elim (cases_Bool (is_in xs d)) [
  | inl here ↦ here
  | inr out ↦
      let all = length-within xs ys apart within in
      let others = count_by-some (λ e. not (is_in xs e)) ys d there (not_from_false (is_in xs d) out) in
      let sum = count_by-not ys (is_in xs) in
      absurd (omega (arith, long, all, others, sum))
]
