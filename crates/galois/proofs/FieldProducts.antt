-- The field product: bytes, both distributive laws, order, and the neutral byte.
use Rattle.std.proofs.Common.{◌≡◌, ℕ, zero, suc, ◌+◌, ◌*◌, ◌%◌, ◌^◌, ◌<◌, ◌≤◌, ◌==◌, Bool, true, false, if◌then◌else◌, bit_xor, sym, ap, ap₂, ◌∙◌, refl, arith, eqb-true, mod-eq_of_lt, pow_pos, mod-lt, one-add}
use Rattle.std.proofs.Math.Nat.{mod-one, mod-le}
use Rattle.std.specs.Int.{bit_at}
use Rattle.std.proofs.lemmas.Nat.{mod-pow-add, xor_block, pow_below}
use Rattle.std.proofs.lemmas.Nat.Bits.{bit_at-lt}
use Rattle.galois.specs.Field.{IsByte, field_sum, doubled, doubled_times, product_below, field_product}
use Rattle.galois.proofs.FieldSums.{all_below, all_below_at, sum-byte, sum_of_sums}
use Rattle.galois.proofs.DoubledBytes.{doubled-sum, doubled_times-byte, doubled_times-sum, doubled_times-doubled, doubled_times-zero}

-- what bit i of b adds to the product of a and b
abbrev term : ℕ → ℕ → ℕ → ℕ
term i a b = if bit_at b i == 1 then doubled_times i a else 0

term-byte : (i a b : ℕ) → IsByte a → IsByte (term i a b)
term-byte i a b ha =
    elim (bit_at b i == 1) as (λ t. IsByte (if t then doubled_times i a else 0)) [
      | true ↦ doubled_times-byte i a ha
      | false ↦ omega arith
    ]

pub product_below-byte : (i a b : ℕ) → IsByte a → IsByte (product_below i a b)
unfolding product_below
product_below-byte zero a b ha = omega arith
product_below-byte (suc i) a b ha =
    sum-byte (term i a b) (product_below i a b) (term-byte i a b ha) (product_below-byte i a b ha)

pub product-byte : (a b : ℕ) → IsByte a → IsByte (field_product a b)
unfolding field_product
product-byte a b ha = product_below-byte 8 a b ha

-- the left factor may be a sum
term-sum_left : (i a c b : ℕ) → IsByte a → IsByte c → term i (field_sum a c) b ≡ field_sum (term i a b) (term i c b)
term-sum_left i a c b ha hc =
    elim (bit_at b i == 1) as (λ t. (if t then doubled_times i (field_sum a c) else 0) ≡ field_sum (if t then doubled_times i a else 0) (if t then doubled_times i c else 0)) [
      | true ↦ doubled_times-sum i a c ha hc
      | false ↦ refl
    ]

product_below-sum_left : (i a c b : ℕ) → IsByte a → IsByte c
    → product_below i (field_sum a c) b ≡ field_sum (product_below i a b) (product_below i c b)
unfolding product_below
product_below-sum_left zero a c b ha hc = refl
product_below-sum_left (suc i) a c b ha hc =
    ap₂ field_sum (term-sum_left i a c b ha hc) (product_below-sum_left i a c b ha hc)
    ∙ sum_of_sums (term i a b) (term i c b) (product_below i a b) (product_below i c b)

pub product-sum_left : (a c b : ℕ) → IsByte a → IsByte c
    → field_product (field_sum a c) b ≡ field_sum (field_product a b) (field_product c b)
unfolding field_product
product-sum_left a c b ha hc = product_below-sum_left 8 a c b ha hc

-- the left factor may be doubled
term-doubled : (i a b : ℕ) → term i (doubled a) b ≡ doubled (term i a b)
unfolding doubled
term-doubled i a b =
    elim (bit_at b i == 1) as (λ t. (if t then doubled_times i (doubled a) else 0) ≡ doubled (if t then doubled_times i a else 0)) [
      | true ↦ doubled_times-doubled i a
      | false ↦ refl
    ]

product_below-doubled : (i a b : ℕ) → IsByte a → product_below i (doubled a) b ≡ doubled (product_below i a b)
unfolding product_below doubled
product_below-doubled zero a b ha = refl
product_below-doubled (suc i) a b ha =
    ap₂ field_sum (term-doubled i a b) (product_below-doubled i a b ha)
    ∙ sym (doubled-sum (term i a b) (product_below i a b) (term-byte i a b ha) (product_below-byte i a b ha))

pub product-doubled : (a b : ℕ) → IsByte a → field_product (doubled a) b ≡ doubled (field_product a b)
unfolding field_product
product-doubled a b ha = product_below-doubled 8 a b ha

pub product-doubled_times : (i a b : ℕ) → IsByte a → field_product (doubled_times i a) b ≡ doubled_times i (field_product a b)
unfolding doubled_times
product-doubled_times zero a b ha = refl
product-doubled_times (suc i) a b ha =
    product-doubled (doubled_times i a) b (doubled_times-byte i a ha) ∙ ap doubled (product-doubled_times i a b ha)

-- one is neutral on the left, by computing all bytes
one_is_neutral : all_below (λ b. field_product 1 b == b) 256 ≡ true
unfolding doubled doubled_times product_below field_product
one_is_neutral = refl

pub one-product : (b : ℕ) → IsByte b → field_product 1 b ≡ b
one-product b hb = eqb-true (field_product 1 b) b (all_below_at (λ b. field_product 1 b == b) 256 b one_is_neutral hb)

-- zero takes all
term-zero : (i b : ℕ) → term i 0 b ≡ 0
term-zero i b =
    elim (bit_at b i == 1) as (λ t. (if t then doubled_times i 0 else 0) ≡ 0) [
      | true ↦ doubled_times-zero i
      | false ↦ refl
    ]

product_below-zero : (i b : ℕ) → product_below i 0 b ≡ 0
unfolding product_below
product_below-zero zero b = refl
product_below-zero (suc i) b = ap₂ field_sum (term-zero i b) (product_below-zero i b)

pub zero-product : (b : ℕ) → field_product 0 b ≡ 0
unfolding field_product
zero-product b = product_below-zero 8 b

-- a number of bit i and the bits below it
bit-over : (t i r : ℕ) → t < 2 → r < 2 ^ i → t * 2 ^ i + r ≡ field_sum (if t == 1 then 2 ^ i else 0) r
bit-over zero i r ht hr = omega arith
bit-over (suc zero) i r ht hr =
    let whole : 1 * 2 ^ i + 0 ≡ 2 ^ i = omega arith in
    let low : 0 * 2 ^ i + r ≡ r = omega arith in
    sym (sym (ap₂ bit_xor whole low) ∙ xor_block i 1 0 0 r (omega (arith, pow_pos i)) hr)
bit-over (suc (suc t)) i r ht hr = absurd (omega arith)

low_bits-suc : (b i : ℕ) → b % 2 ^ (suc i) ≡ field_sum (if bit_at b i == 1 then 2 ^ i else 0) (b % 2 ^ i)
low_bits-suc b i =
    ap (λ (n : ℕ). b % 2 ^ n) (sym (one-add i)) ∙ mod-pow-add b 1 i
    ∙ bit-over (bit_at b i) i (b % 2 ^ i) (bit_at-lt b i) (mod-lt b (pow_pos i))

-- bit i of a byte is one doubled i times
bits_are_doubled : all_below (λ i. doubled_times i 1 == 2 ^ i) 8 ≡ true
unfolding doubled doubled_times
bits_are_doubled = refl

bit-product : (i a : ℕ) → i < 8 → IsByte a → field_product (2 ^ i) a ≡ doubled_times i a
bit-product i a hi ha =
    ap (λ (n : ℕ). field_product n a) (sym (eqb-true (doubled_times i 1) (2 ^ i) (all_below_at (λ i. doubled_times i 1 == 2 ^ i) 8 i bits_are_doubled hi)))
    ∙ product-doubled_times i 1 a (omega arith) ∙ ap (doubled_times i) (one-product a ha)

bit_or_zero-byte : (i : ℕ) (t : Bool) → i < 8 → IsByte (if t then 2 ^ i else 0)
bit_or_zero-byte i true hi = pow_below i 8 hi
bit_or_zero-byte i false hi = omega arith

term-is_product : (i a b : ℕ) → i < 8 → IsByte a → term i a b ≡ field_product (if bit_at b i == 1 then 2 ^ i else 0) a
term-is_product i a b hi ha =
    elim (bit_at b i == 1) as (λ t. (if t then doubled_times i a else 0) ≡ field_product (if t then 2 ^ i else 0) a) [
      | true ↦ sym (bit-product i a hi ha)
      | false ↦ sym (zero-product a)
    ]

product_below-turned : (i a b : ℕ) → i ≤ 8 → IsByte a → IsByte b → product_below i a b ≡ field_product (b % 2 ^ i) a
unfolding product_below
product_below-turned zero a b hi ha hb = sym (ap (λ (n : ℕ). field_product n a) (mod-one b) ∙ zero-product a)
product_below-turned (suc i) a b hi ha hb =
    let within : i < 8 = omega arith in
    let low : IsByte (b % 2 ^ i) = omega (arith, mod-le b (2 ^ i)) in
    ap₂ field_sum (term-is_product i a b within ha) (product_below-turned i a b (omega arith) ha hb)
    ∙ sym (product-sum_left (if bit_at b i == 1 then 2 ^ i else 0) (b % 2 ^ i) a (bit_or_zero-byte i (bit_at b i == 1) within) low)
    ∙ sym (ap (λ (n : ℕ). field_product n a) (low_bits-suc b i))

-- the order of the factors is free
pub product_comm : (a b : ℕ) → IsByte a → IsByte b → field_product a b ≡ field_product b a
unfolding field_product
product_comm a b ha hb =
    product_below-turned 8 a b (omega arith) ha hb ∙ ap (λ (n : ℕ). field_product n a) (mod-eq_of_lt hb)

pub product-sum : (a b c : ℕ) → IsByte a → IsByte b → IsByte c
    → field_product a (field_sum b c) ≡ field_sum (field_product a b) (field_product a c)
product-sum a b c ha hb hc =
    product_comm a (field_sum b c) ha (sum-byte b c hb hc) ∙ product-sum_left b c a hb hc
    ∙ ap₂ field_sum (product_comm b a hb ha) (product_comm c a hc ha)

pub product-one : (a : ℕ) → IsByte a → field_product a 1 ≡ a
product-one a ha = product_comm a 1 ha (omega arith) ∙ one-product a ha

pub product-zero : (a : ℕ) → IsByte a → field_product a 0 ≡ 0
product-zero a ha = product_comm a 0 ha (omega arith) ∙ zero-product a

-- a factor may be doubled on the right
product_right-doubled_times : (i a b : ℕ) → IsByte a → IsByte b → field_product a (doubled_times i b) ≡ doubled_times i (field_product a b)
product_right-doubled_times i a b ha hb =
    product_comm a (doubled_times i b) ha (doubled_times-byte i b hb) ∙ product-doubled_times i b a hb
    ∙ ap (doubled_times i) (product_comm b a hb ha)

-- three factors
term-of_product : (i a b c : ℕ) → IsByte a → IsByte b → term i (field_product a b) c ≡ field_product a (term i b c)
term-of_product i a b c ha hb =
    elim (bit_at c i == 1) as (λ t. (if t then doubled_times i (field_product a b) else 0) ≡ field_product a (if t then doubled_times i b else 0)) [
      | true ↦ sym (product_right-doubled_times i a b ha hb)
      | false ↦ sym (product-zero a ha)
    ]

product_below-assoc : (i a b c : ℕ) → IsByte a → IsByte b → product_below i (field_product a b) c ≡ field_product a (product_below i b c)
unfolding product_below
product_below-assoc zero a b c ha hb = sym (product-zero a ha)
product_below-assoc (suc i) a b c ha hb =
    ap₂ field_sum (term-of_product i a b c ha hb) (product_below-assoc i a b c ha hb)
    ∙ sym (product-sum a (term i b c) (product_below i b c) ha (term-byte i b c hb) (product_below-byte i b c hb))

pub product_assoc : (a b c : ℕ) → IsByte a → IsByte b → field_product (field_product a b) c ≡ field_product a (field_product b c)
unfolding field_product
product_assoc a b c ha hb = product_below-assoc 8 a b c ha hb
