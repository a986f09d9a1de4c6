-- The laws of the field and of polynomials over it.
use Rattle.std.specs.Prelude.{◌≡◌, ◌≢◌, ℕ, ◌+◌, ◌≤◌, List, length, All, AllPairs, slice_index}
use Rattle.galois.specs.Field.{IsByte, field_sum, field_product}
use Rattle.galois.specs.Polynomial.{polynomial_value}

-- sums and products of bytes are bytes, sums and products may be taken in any order, 0 and 1 are neutral, each byte is
-- its own opposite, products distribute over sums, and each byte but zero has an inverse
pub record IsField : Type 0 where
  pub sum_is_byte : (a b : ℕ) → IsByte a → IsByte b → IsByte (field_sum a b)
  pub sum_associates : (a b c : ℕ) → field_sum (field_sum a b) c ≡ field_sum a (field_sum b c)
  pub sum_commutes : (a b : ℕ) → field_sum a b ≡ field_sum b a
  pub sum_with_zero : (a : ℕ) → field_sum a 0 ≡ a
  pub sum_with_itself : (a : ℕ) → field_sum a a ≡ 0
  pub product_is_byte : (a b : ℕ) → IsByte a → IsByte b → IsByte (field_product a b)
  pub product_associates : (a b c : ℕ) → IsByte a → IsByte b → IsByte c
      → field_product (field_product a b) c ≡ field_product a (field_product b c)
  pub product_commutes : (a b : ℕ) → IsByte a → IsByte b → field_product a b ≡ field_product b a
  pub product_with_one : (a : ℕ) → IsByte a → field_product a 1 ≡ a
  pub product_distributes : (a b c : ℕ) → IsByte a → IsByte b → IsByte c
      → field_product a (field_sum b c) ≡ field_sum (field_product a b) (field_product a c)
  pub product_with_inverse : (a : ℕ) → IsByte a → a ≢ 0 → (b : ℕ) × IsByte b × (field_product a b ≡ 1)

-- a polynomial of degree d, whose last coefficient is not zero, has at most d different roots
abbrev pub RootsAreFew : Type 0
RootsAreFew = (d : ℕ) (coefficients roots : List ℕ) → All IsByte coefficients → length coefficients ≡ d + 1
    → slice_index coefficients d ≢ 0 → All IsByte roots → AllPairs (λ x y. x ≢ y) roots
    → All (λ x. polynomial_value coefficients x ≡ 0) roots → length roots ≤ d

-- polynomials with n coefficients that take the same values at n different elements are the same
abbrev pub ValuesDetermine : Type 0
ValuesDetermine = (n : ℕ) (elements first second : List ℕ) → All IsByte elements → All IsByte first → All IsByte second
    → length elements ≡ n → length first ≡ n → length second ≡ n → AllPairs (λ x y. x ≢ y) elements
    → All (λ x. polynomial_value first x ≡ polynomial_value second x) elements → first ≡ second
