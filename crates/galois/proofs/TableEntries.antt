-- Each table passes a test that the check computes over all of it, and the test gives the rule at each entry.
use Rattle.std.proofs.Common.{◌≡◌, ℕ, ◌+◌, ◌<◌, ◌==◌, ◌&&◌, ◌||◌, nat_lt, Bool, true, List, get_or, sym, ap, ◌∙◌, arith, inl, inr, eqb-true, ltb-true}
use Rattle.std.proofs.lemmas.Bool.{or_cases, and_parts}
use Rattle.galois.specs.Field.{IsByte, field_product, doubled_times}
use Rattle.galois.specs.Tables.{HoldsPowers, HoldsLogarithms, HoldsInverses}
use Rattle.galois.proofs.FieldSums.{all_below, all_below_at}
use Rattle.galois.proofs.DoubledBytes.{doubled_times-add}
use Rattle.galois.proofs.FieldProducts.{one-product, product-doubled_times}

-- the entry is one doubled as often as the index says
abbrev pub is_power : List ℕ → ℕ → Bool
is_power table i = get_or table i 0 == doubled_times i 1

pub powers_by_test : (table : List ℕ) → all_below (is_power table) 510 ≡ true → HoldsPowers table
powers_by_test table test = record {
  entry = λ i within. eqb-true (get_or table i 0) (doubled_times i 1) (all_below_at (is_power table) 510 i test within);
}

-- the entry says how often one is doubled to give the index
abbrev pub is_logarithm : List ℕ → ℕ → Bool
is_logarithm table a = (a == 0) || (nat_lt (get_or table a 0) 255 && (doubled_times (get_or table a 0) 1 == a))

logarithm_parts : (table : List ℕ) → all_below (is_logarithm table) 256 ≡ true → (a : ℕ) → 0 < a → IsByte a
    → (nat_lt (get_or table a 0) 255 ≡ true) × ((doubled_times (get_or table a 0) 1 == a) ≡ true)
logarithm_parts table test a some within =
    elim (or_cases (a == 0) (nat_lt (get_or table a 0) 255 && (doubled_times (get_or table a 0) 1 == a)) (all_below_at (is_logarithm table) 256 a test within)) [
      | inl none ↦ (let is_zero : a ≡ 0 = eqb-true a 0 none in absurd (omega arith))
      | inr found ↦ and_parts (nat_lt (get_or table a 0) 255) (doubled_times (get_or table a 0) 1 == a) found
    ]

pub logarithms_by_test : (table : List ℕ) → all_below (is_logarithm table) 256 ≡ true → HoldsLogarithms table
logarithms_by_test table test = record {
  small = λ a some within. ltb-true (get_or table a 0) 255 (logarithm_parts table test a some within).0;
  entry = λ a some within. eqb-true (doubled_times (get_or table a 0) 1) a (logarithm_parts table test a some within).1;
}

-- the entry times the index is 1
abbrev pub is_inverse : List ℕ → ℕ → Bool
is_inverse table a = (a == 0) || (field_product a (get_or table a 0) == 1)

pub inverses_by_test : (table : List ℕ) → all_below (is_inverse table) 256 ≡ true → HoldsInverses table
inverses_by_test table test = record {
  entry = λ a some within.
      elim (or_cases (a == 0) (field_product a (get_or table a 0) == 1) (all_below_at (is_inverse table) 256 a test within)) [
        | inl none ↦ (let is_zero : a ≡ 0 = eqb-true a 0 none in absurd (omega arith))
        | inr found ↦ eqb-true (field_product a (get_or table a 0)) 1 found
      ];
}

-- as many doublings as two bytes take together give their product
pub doublings_of_product : (i j a b : ℕ) → IsByte b → doubled_times i 1 ≡ a → doubled_times j 1 ≡ b
    → doubled_times (i + j) 1 ≡ field_product a b
doublings_of_product i j a b hb is_a is_b =
    doubled_times-add i j 1 ∙ ap (doubled_times i) (is_b ∙ sym (one-product b hb))
    ∙ sym (product-doubled_times i 1 b (omega arith)) ∙ ap (λ (n : ℕ). field_product n b) is_a

-- the product by the tables, where i and j are read at a and b
pub product_by_tables : (logarithms powers : List ℕ) (a b i j : ℕ) → HoldsLogarithms logarithms → HoldsPowers powers
    → 0 < a → IsByte a → 0 < b → IsByte b → i ≡ get_or logarithms a 0 → j ≡ get_or logarithms b 0
    → get_or powers (i + j) 0 ≡ field_product a b
product_by_tables logarithms powers a b i j logs pows some_a ha some_b hb read_a read_b =
    let small_a = logs.small a some_a ha in
    let small_b = logs.small b some_b hb in
    pows.entry (i + j) (omega arith)
    ∙ doublings_of_product i j a b hb
    (ap (λ (n : ℕ). doubled_times n 1) read_a ∙ logs.entry a some_a ha)
    (ap (λ (n : ℕ). doubled_times n 1) read_b ∙ logs.entry b some_b hb)
