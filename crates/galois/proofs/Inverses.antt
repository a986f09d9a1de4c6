-- Every byte but zero has an inverse, so that no product of two others is zero.
use Rattle.std.proofs.Common.{◌≡◌, ℕ, zero, suc, ◌==◌, ◌||◌, true, sym, ap, ◌∙◌, refl, arith, inl, inr, ◌≢◌, eqb-true}
use Rattle.std.proofs.lemmas.Bool.{or_cases}
use Rattle.galois.specs.Field.{IsByte, field_sum, doubled, doubled_times, product_below, field_product}
use Rattle.galois.proofs.FieldSums.{all_below, all_below_at, same_from_sum}
use Rattle.galois.proofs.FieldProducts.{product-byte, product_comm, product_assoc, one-product, product-one, product-zero, zero-product}

-- the product of the next k squares of a byte
squares : ℕ → ℕ → ℕ
squares zero x = 1
squares (suc k) x = field_product (field_product x x) (squares k (field_product x x))

-- the inverse of a byte that is not zero, as its power 254
pub inverse : ℕ → ℕ
inverse x = squares 7 x

pub inverse-byte : (a : ℕ) → IsByte a → IsByte (inverse a)
unfolding inverse squares
inverse-byte a ha = product-byte (field_product a a) _ (product-byte a a ha)

inverses_are_right : all_below (λ a. (a == 0) || (field_product a (inverse a) == 1)) 256 ≡ true
unfolding doubled doubled_times product_below field_product squares inverse
inverses_are_right = refl

pub product-inverse : (a : ℕ) → IsByte a → a ≢ 0 → field_product a (inverse a) ≡ 1
product-inverse a ha other =
    elim (or_cases (a == 0) (field_product a (inverse a) == 1) (all_below_at (λ a. (a == 0) || (field_product a (inverse a) == 1)) 256 a inverses_are_right ha)) [
      | inl none ↦ absurd (other (eqb-true a 0 none))
      | inr found ↦ eqb-true (field_product a (inverse a)) 1 found
    ]

-- a factor that is not zero can be taken out again
pub product-inverse_left : (a b : ℕ) → IsByte a → IsByte b → a ≢ 0 → field_product (inverse a) (field_product a b) ≡ b
product-inverse_left a b ha hb other =
    sym (product_assoc (inverse a) a b (inverse-byte a ha) ha)
    ∙ ap (λ (n : ℕ). field_product n b) (product_comm (inverse a) a (inverse-byte a ha) ha ∙ product-inverse a ha other)
    ∙ one-product b hb

-- no zero divisors
pub zero_factor : (a b : ℕ) → IsByte a → IsByte b → a ≢ 0 → field_product a b ≡ 0 → b ≡ 0
zero_factor a b ha hb other none =
    sym (product-inverse_left a b ha hb other) ∙ ap (field_product (inverse a)) none
    ∙ product-zero (inverse a) (inverse-byte a ha)

-- there is one inverse
pub inverse_unique : (a b : ℕ) → IsByte a → IsByte b → field_product a b ≡ 1 → inverse a ≡ b
inverse_unique a b ha hb one =
    let other : a ≢ 0 = λ none.
    let zero_is_one : field_product 0 b ≡ 1 = ap (λ (n : ℕ). field_product n b) (sym none) ∙ one in
    let zero_is_zero = zero-product b in
    omega arith in
    sym (product-one (inverse a) (inverse-byte a ha)) ∙ ap (field_product (inverse a)) (sym one)
    ∙ product-inverse_left a b ha hb other

-- different bytes have a difference that is not zero
pub difference_not_zero : (a b : ℕ) → a ≢ b → field_sum a b ≢ 0
difference_not_zero a b other none = other (same_from_sum a b none)
