-- Operations in the serial order, some of them, and how many are earlier than another.
use Rattle.std.proofs.Common.{inl, inr, ◌≡◌, ◌≢◌, ◌&&◌, ℕ, zero, suc, ◌+◌, ◌<◌, ◌≤◌, Bool, true, false, cond, eqb, List, [], ◌∷◌, map, Option, Some, slice_get, refl, sym, ap, subst, ◌∙◌, arith}
use Rattle.std.specs.Prelude.{unwrap_or}
use Rattle.std.specs.List.{AllByRecursion, count_by}
use Rattle.std.proofs.lemmas.Option.{slice_get_within}
use Rattle.std.proofs.lemmas.Bool.{cases_lt, eq-eqb, false_from_ne_true, false≢true, ne_eqb}
use Rattle.std.proofs.lemmas.Bool.Decides.{nat_tests}
use Rattle.domains.specs.Counts.{one_if}
use Rattle.domains.specs.declared.by.By.{By}
use Rattle.domains.proofs.CountLemmas.{count_by-append, count_by-cons}
use Rattle.legal_runs.specs.Actors.{is_by}
use Rattle.serial_order.specs.SerialOrder.{AreAscending, calls_of, is_earlier, numbers_to}
use Rattle.serial_runs.specs.SerialLogs.{those}

-- an element of a list for which a fact holds of each
pub all-at : {A : Type 0} (P : A → Type 0) (xs : List A) (i : ℕ) (x : A) → AllByRecursion P xs → slice_get xs i ≡ Some x → P x
all-at P [] i x all there = absurd (let low = slice_get_within [] i x there in omega (arith, low))
all-at P (y ∷ ys) zero x all there = subst P (ap (λ (o : Option _). unwrap_or o y) there) all.0
all-at P (y ∷ ys) (suc i) x all there = all-at P ys i x all.1 there

pub all-those : (P : By → Type 0) (p : By → Bool) (bs : List By) → AllByRecursion P bs → AllByRecursion P (those p bs)
all-those P p [] all = tt
all-those P p (b ∷ bs) all =
    let rest = all-those P p bs all.1 in
    elim (p b) as (λ e. AllByRecursion P (cond e (b ∷ those p bs) (those p bs))) [
      | true ↦ (all.0, rest)
      | false ↦ rest
    ]

-- some operations of a list in order are in order
pub those-ascend : (p : By → Bool) (bs : List By) → AreAscending bs → AreAscending (those p bs)
those-ascend p [] up = tt
those-ascend p (b ∷ bs) up =
    let rest = those-ascend p bs up.1 in
    elim (p b) as (λ e. AreAscending (cond e (b ∷ those p bs) (those p bs))) [
      | true ↦ (all-those (λ later. is_earlier b later ≡ true) p bs up.0, rest)
      | false ↦ rest
    ]

-- the earlier of two places in such a list has the earlier operation
pub ascending-at : (bs : List By) (first second : ℕ) (a b : By) → AreAscending bs → first < second → slice_get bs first ≡ Some a → slice_get bs second ≡ Some b → is_earlier a b ≡ true
ascending-at [] first second a b up before at_first at_second = absurd (let low = slice_get_within [] first a at_first in omega (arith, low))
ascending-at (c ∷ cs) zero zero a b up before at_first at_second = absurd (omega (arith, before))
ascending-at (c ∷ cs) zero (suc second) a b up before at_first at_second =
    subst (λ (x : By). is_earlier x b ≡ true) (ap (λ (o : Option By). unwrap_or o c) at_first) (all-at (λ later. is_earlier c later ≡ true) cs second b up.0 at_second)
ascending-at (c ∷ cs) (suc first) zero a b up before at_first at_second = absurd (omega (arith, before))
ascending-at (c ∷ cs) (suc first) (suc second) a b up before at_first at_second = ascending-at cs first second a b up.1 (omega (arith, before)) at_first at_second

pub earlier-trans : (a b c : By) → is_earlier a b ≡ true → is_earlier b c ≡ true → is_earlier a c ≡ true
earlier-trans a b c first second = grind (arith, nat_tests, first, second)

-- an actor's earlier operation has a lower number
pub earlier-call : (a b : By) → is_earlier a b ≡ true → a.actor ≡ b.actor → a.call < b.call
earlier-call a b earlier same = grind (arith, nat_tests, earlier, same)

-- and one with a lower number is earlier, whoever's it is
pub call-earlier : (a b : By) → a.call < b.call → is_earlier a b ≡ true
call-earlier a b lower = grind (arith, nat_tests, lower)

-- the first operations of such a list, up to one that is earlier than this, all count as earlier
pub earlier-count : (bs : List By) (index : ℕ) (b by : By) → AreAscending bs → slice_get bs index ≡ Some b → is_earlier b by ≡ true → index + 1 ≤ count_by (λ (x : By). is_earlier x by) bs
earlier-count [] index b by up there earlier = absurd (let low = slice_get_within [] index b there in omega (arith, low))
earlier-count (c ∷ cs) zero b by up there earlier =
    let same : c ≡ b = ap (λ (o : Option By). unwrap_or o c) there in
    let here : one_if (is_earlier c by) ≡ 1 = ap (λ (x : By). one_if (is_earlier x by)) same ∙ ap one_if earlier in
    let all = count_by-cons (λ (x : By). is_earlier x by) c cs in
    omega (arith, here, all)
earlier-count (c ∷ cs) (suc index) b by up there earlier =
    let first = all-at (λ later. is_earlier c later ≡ true) cs index b up.0 there in
    let here : one_if (is_earlier c by) ≡ 1 = ap one_if (earlier-trans c b by first earlier) in
    let rest = earlier-count cs index b by up.1 there earlier in
    let all = count_by-cons (λ (x : By). is_earlier x by) c cs in
    omega (arith, here, rest, all)

-- what passes the one test passes the other
pub count-weaker : {A : Type 0} (p q : A → Bool) (xs : List A) → ((x : A) → p x ≡ true → q x ≡ true) → count_by p xs ≤ count_by q xs
count-weaker p q [] how = omega arith
count-weaker p q (x ∷ xs) how =
    let one = count_by-cons p x xs in
    let two = count_by-cons q x xs in
    let rest = count-weaker p q xs how in
    let here : one_if (p x) ≤ one_if (q x) = weaker_one (p x) (q x) (how x) in
    omega (arith, one, two, rest, here)
  where
    weaker_one : (a b : Bool) → (a ≡ true → b ≡ true) → one_if a ≤ one_if b
    weaker_one true b how = let same : one_if b ≡ 1 = ap one_if (how refl) in omega (arith, same)
    weaker_one false b how = omega arith

pub count-map : {A B : Type 0} (f : A → B) (p : B → Bool) (xs : List A) → count_by p (map f xs) ≡ count_by (λ (x : A). p (f x)) xs
count-map f p [] = refl
count-map f p (x ∷ xs) = count_by-cons p (f x) (map f xs) ∙ ap (λ (n : ℕ). one_if (p (f x)) + n) (count-map f p xs) ∙ sym (count_by-cons (λ x. p (f x)) x xs)

-- a choice that keeps all that pass a test leaves as many of them
chosen : (q : By → Bool) (b : By) (some bs : List By) (e : Bool) → (q b ≡ true → e ≡ true) → count_by q some ≡ count_by q bs → count_by q (cond e (b ∷ some) some) ≡ count_by q (b ∷ bs)
chosen q b some bs true how rest = count_by-cons q b some ∙ ap (λ (n : ℕ). one_if (q b) + n) rest ∙ sym (count_by-cons q b bs)
chosen q b some bs false how rest =
    let none : one_if (q b) ≡ 0 = ap one_if (false_from_ne_true (q b) (λ passes. false≢true (how passes))) in
    let all = count_by-cons q b bs in
    omega (arith, none, all, rest)

pub count-those : (p q : By → Bool) (bs : List By) → ((b : By) → q b ≡ true → p b ≡ true) → count_by q (those p bs) ≡ count_by q bs
count-those p q [] how = refl
count-those p q (b ∷ bs) how = chosen q b (those p bs) bs (p b) (how b) (count-those p q bs how)

called : (c call n : ℕ) (cs : List ℕ) (e : Bool) → n ≡ count_by (λ x. eqb x call) cs → one_if (e && eqb c call) + n ≡ count_by (λ x. eqb x call) (cond e (c ∷ cs) cs)
called c call n cs true same = ap (λ (k : ℕ). one_if (eqb c call) + k) same ∙ sym (count_by-cons (λ x. eqb x call) c cs)
called c call n cs false same = (let here : 0 + n ≡ n = omega arith in here) ∙ same

-- how often an operation stands in a list is told by the numbers of its actor's
pub count-calls : (actor call : ℕ) (bs : List By) → count_by (is_by actor call) bs ≡ count_by (λ c. eqb c call) (calls_of actor bs)
count-calls actor call [] = refl
count-calls actor call (b ∷ bs) =
    count_by-cons (is_by actor call) b bs ∙ called b.call call (count_by (is_by actor call) bs) (calls_of actor bs) (eqb b.actor actor) (count-calls actor call bs)

ends : (n call : ℕ) → count_by (λ c. eqb c call) (numbers_to (suc n)) ≡ count_by (λ c. eqb c call) (numbers_to n) + one_if (eqb (suc n) call)
ends n call =
    let all = count_by-append (λ c. eqb c call) (numbers_to n) (suc n ∷ []) in
    let last = count_by-cons (λ c. eqb c call) (suc n) [] in
    let none : count_by (λ c. eqb c call) [] ≡ 0 = refl in
    omega (arith, all, last, none)

count-none : (n call : ℕ) → n < call → count_by (λ c. eqb c call) (numbers_to n) ≡ 0
count-none zero call past = refl
count-none (suc n) call past =
    let rest = count-none n call (omega (arith, past)) in
    let all = ends n call in
    let other : one_if (eqb (suc n) call) ≡ 0 = ap one_if (ne_eqb (suc n) call (let apart : suc n ≢ call = omega (arith, past) in apart)) in
    omega (arith, rest, all, other)

-- each number up to the last stands there once
pub count-numbers : (n call : ℕ) → 1 ≤ call → call ≤ n → count_by (λ c. eqb c call) (numbers_to n) ≡ 1
count-numbers zero call some within = absurd (omega (arith, some, within))
count-numbers (suc n) call some within = elim (cases_lt n call) [
  | inl last ↦
      let same : suc n ≡ call = omega (arith, last, within) in
      let rest = count-none n call last in
      let all = ends n call in
      let here : one_if (eqb (suc n) call) ≡ 1 = ap one_if (eq-eqb (suc n) call same) in
      omega (arith, rest, all, here)
  | inr before ↦
      let rest = count-numbers n call some before in
      let all = ends n call in
      let other : one_if (eqb (suc n) call) ≡ 0 = ap one_if (ne_eqb (suc n) call (let apart : suc n ≢ call = omega (arith, before) in apart)) in
      omega (arith, rest, all, other)
]
