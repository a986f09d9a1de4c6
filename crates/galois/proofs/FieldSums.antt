-- The field sum, and tests that are computed over all numbers below a bound.
use Rattle.std.proofs.Common.{◌≡◌, ℕ, zero, suc, ◌<◌, ◌&&◌, Bool, true, bit_xor, sym, ap, ◌∙◌, arith, inl, inr}
use Rattle.std.specs.Int.Bits.{xor_zero_r, xor_self, xor_assoc}
use Rattle.std.proofs.lemmas.Nat.{xor_comm, xor_lt}
use Rattle.std.proofs.lemmas.Bool.{and_parts, cases_lt}
use Rattle.galois.specs.Field.{IsByte, field_sum}

-- p holds of each number below n
abbrev pub all_below : (ℕ → Bool) → ℕ → Bool
all_below p zero = true
all_below p (suc n) = p n && all_below p n

pub all_below_at : (p : ℕ → Bool) (n k : ℕ) → all_below p n ≡ true → k < n → p k ≡ true
all_below_at p zero k h lt = absurd (omega arith)
all_below_at p (suc n) k h lt =
    let parts = and_parts (p n) (all_below p n) h in
    elim (cases_lt k n) [
      | inl below ↦ all_below_at p n k parts.1 below
      | inr top ↦
          let e : k ≡ n = omega arith in
          rw e parts.0
    ]

-- the field sum
pub sum_comm : (a b : ℕ) → field_sum a b ≡ field_sum b a
sum_comm a b = xor_comm a b

pub sum_assoc : (a b c : ℕ) → field_sum (field_sum a b) c ≡ field_sum a (field_sum b c)
sum_assoc a b c = xor_assoc a b c

pub sum_zero : (a : ℕ) → field_sum a 0 ≡ a
sum_zero a = xor_zero_r a

pub sum_self : (a : ℕ) → field_sum a a ≡ 0
sum_self a = xor_self a

pub sum-byte : (a b : ℕ) → IsByte a → IsByte b → IsByte (field_sum a b)
sum-byte a b ha hb = xor_lt 8 a b ha hb

-- what was added twice is gone
pub sum_twice : (a b : ℕ) → field_sum (field_sum a b) b ≡ a
sum_twice a b = xor_assoc a b b ∙ ap (λ (x : ℕ). bit_xor a x) (xor_self b) ∙ xor_zero_r a

-- two sums that differ in one part alone
pub sum_cancel : (a b c : ℕ) → field_sum a c ≡ field_sum b c → a ≡ b
sum_cancel a b c h = sym (sum_twice a c) ∙ ap (λ (x : ℕ). bit_xor x c) h ∙ sum_twice b c

-- bytes whose sum is zero are equal
pub same_from_sum : (a b : ℕ) → field_sum a b ≡ 0 → a ≡ b
same_from_sum a b h = sum_cancel a b b (h ∙ sym (xor_self b))

pub sum_of_sums : (a b c d : ℕ)
    → field_sum (field_sum a b) (field_sum c d) ≡ field_sum (field_sum a c) (field_sum b d)
sum_of_sums a b c d =
    xor_assoc a b (bit_xor c d)
    ∙ ap (λ (x : ℕ). bit_xor a x) (sym (xor_assoc b c d) ∙ ap (λ (x : ℕ). bit_xor x d) (xor_comm b c) ∙ xor_assoc c b d)
    ∙ sym (xor_assoc a c (bit_xor b d))
