-- The numbers of a cycle.
use Rattle.std.proofs.Common.{◌≡◌, ℕ, zero, suc, ◌+◌, ◌-◌, ◌*◌, ◌/◌, ◌%◌, ◌<◌, ◌≤◌, ◌⊎◌, inl, inr, List, [], ◌∷◌, ap, subst, ◌∙◌, arith, mod-lt}
use Rattle.std.proofs.Math.Nat.{mod-add-div'}
use Rattle.std.proofs.lemmas.Bool.{cases_lt}
use Rattle.std.proofs.lemmas.Nat.{mod-mul-add}
use Rattle.placement_order.specs.Order.{cycle}

-- the number is one of the list
abbrev pub IsOneOf : ℕ → List ℕ → Type 0
IsOneOf m [] = ⊥
IsOneOf m (n ∷ ns) = (n ≡ m) ⊎ IsOneOf m ns

-- the numbers are all within 1 and the count
abbrev pub AreWithin : ℕ → List ℕ → Type 0
AreWithin count [] = Unit {0}
AreWithin count (n ∷ ns) = (1 ≤ n) × (n ≤ count) × AreWithin count ns

pub within_cycle : (n count start : ℕ) → 1 ≤ count → AreWithin count (cycle n count start)
within_cycle zero count start some = tt
within_cycle (suc n) count start some =
    let below : start % count < count = mod-lt start some in
    (omega arith, omega (arith, below), within_cycle n count (suc start) some)

pub within_all : (count start : ℕ) → AreWithin count (cycle count count start)
within_all zero start = tt
within_all (suc n) start = within_cycle (suc n) (suc n) start (omega arith)

-- the i-th number of a cycle
in_cycle : (n count start i : ℕ) → i < n → IsOneOf (1 + (start + i) % count) (cycle n count start)
in_cycle zero count start i below = absurd (omega arith)
in_cycle (suc n) count start zero below =
    let same : start ≡ start + zero = omega arith in inl (ap (λ x. 1 + x % count) same)
in_cycle (suc n) count start (suc i) below =
    let same : suc start + i ≡ start + suc i = omega arith in
    inr (subst (λ x. IsOneOf (1 + x % count) (cycle n count (suc start))) same (in_cycle n count (suc start) i (omega arith)))

-- a cycle of all numbers has each of them
pub in_all : (count start m : ℕ) → 1 ≤ m → m ≤ count → IsOneOf m (cycle count count start)
in_all count start m some within =
    let split = mod-add-div' start count in
    let below : start % count < count = mod-lt start (omega arith) in
    elim (cases_lt (m - 1) (start % count)) [
      | inr ahead ↦
          let i : ℕ = m - 1 - start % count in
          let at : start + i ≡ start / count * count + (m - 1) = omega (arith, split, ahead) in
          let is : 1 + (start + i) % count ≡ m = ap (λ x. 1 + x % count) at ∙ ap (λ x. 1 + x) (mod-mul-add (start / count) count (m - 1) (omega arith)) ∙ omega arith in
          subst (λ x. IsOneOf x (cycle count count start)) is (in_cycle count count start i (omega arith))
      | inl behind ↦
          let i : ℕ = m - 1 + count - start % count in
          let at : start + i ≡ (start / count + 1) * count + (m - 1) = omega (arith, split, behind) in
          let is : 1 + (start + i) % count ≡ m = ap (λ x. 1 + x % count) at ∙ ap (λ x. 1 + x) (mod-mul-add (start / count + 1) count (m - 1) (omega arith)) ∙ omega arith in
          subst (λ x. IsOneOf x (cycle count count start)) is (in_cycle count count start i (omega arith))
    ]

-- no number comes twice
abbrev pub AreOnce : List ℕ → Type 0
AreOnce [] = Unit {0}
AreOnce (n ∷ ns) = (IsOneOf n ns → ⊥) × AreOnce ns

moves_on : (start count i : ℕ) → 1 ≤ i → i < count → (start + i) % count ≡ start % count → ⊥
moves_on start count i some short same =
    let split = mod-add-div' start count in
    let below : start % count < count = mod-lt start (omega arith) in
    elim (cases_lt (start % count + i) count) [
      | inl within ↦
          let at : start + i ≡ start / count * count + (start % count + i) = omega (arith, split) in
          let is : (start + i) % count ≡ start % count + i = ap (λ x. x % count) at ∙ mod-mul-add (start / count) count (start % count + i) within in
          omega (arith, is, same, some)
      | inr past ↦
          let at : start + i ≡ (start / count + 1) * count + (start % count + i - count) = omega (arith, split, past) in
          let is : (start + i) % count ≡ start % count + i - count =
          ap (λ x. x % count) at ∙ mod-mul-add (start / count + 1) count (start % count + i - count) (omega (arith, below, short)) in
          omega (arith, is, same, short, past, below)
    ]

no_return : (n count start i : ℕ) → 1 ≤ i → i + n ≤ count → IsOneOf (1 + start % count) (cycle n count (start + i)) → ⊥
no_return zero count start i some short there = there
no_return (suc n) count start i some short there = elim there [
  | inl here ↦ moves_on start count i some (omega arith) (omega (arith, here))
  | inr later ↦
      let next : suc (start + i) ≡ start + suc i = omega arith in
      no_return n count start (suc i) (omega arith) (omega arith) (subst (λ x. IsOneOf (1 + start % count) (cycle n count x)) next later)
]

once_cycle : (n count start : ℕ) → n ≤ count → AreOnce (cycle n count start)
once_cycle zero count start short = tt
once_cycle (suc n) count start short =
    let next : suc start ≡ start + 1 = omega arith in (
      λ there. no_return n count start 1 (omega arith) (omega arith) (subst (λ x. IsOneOf (1 + start % count) (cycle n count x)) next there),
      once_cycle n count (suc start) (omega arith),
    )

-- a cycle of all numbers has none twice
pub once_all : (count start : ℕ) → AreOnce (cycle count count start)
once_all count start = once_cycle count count start (omega arith)
