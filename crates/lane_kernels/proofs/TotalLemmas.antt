-- The totals of tables are weighted sums of units.
use Rattle.std.proofs.Common.{◌≡◌, ℕ, zero, suc, ◌+◌, ◌*◌, ◌<◌, List, [], ◌∷◌, length, take, get_or, bit_xor, sym, ap, ap₂, subst, ◌∙◌, refl, arith, rules}
use Rattle.std.specs.Int.Bits.{xor_zero_r, xor_assoc}
use Rattle.std.proofs.lemmas.List.{get_or-map, length-map, take_all}
use Rattle.galois.specs.Field.{IsByte, field_sum, field_product}
use Rattle.lane_kernels.specs.Halves.{HoldTables, looked_up}
use Rattle.lane_kernels.specs.Rows.{RowsHold, total_below, row_total}
use Rattle.lane_kernels.specs.WeightedSums.{IsWeightedSum, units_in, column_of, weighted_sum}
use Rattle.lane_kernels.proofs.HalfLemmas.{looked_up-product}
use Rattle.lane_kernels.proofs.BufferUnits.{length-units_in, unit_byte, length-unit}

-- sums of equal values
total-same : (f g : ℕ → ℕ) (n : ℕ) → ((j : ℕ) → j < n → f j ≡ g j) → total_below f n ≡ total_below g n
total-same f g zero same = refl
total-same f g (suc n) same = ap₂ bit_xor (total-same f g n (λ j l. same j (omega arith))) (same n (omega arith))

-- the first value apart
total-first : (f : ℕ → ℕ) (n : ℕ) → total_below f (suc n) ≡ field_sum (f 0) (total_below (λ j. f (suc j)) n)
total-first f zero = sum_zero_left (f 0) ∙ sym (xor_zero_r (f 0))
  where
    sum_zero_left : (a : ℕ) → bit_xor 0 a ≡ a
    sum_zero_left a = search rules
total-first f (suc n) =
    ap (λ t. bit_xor t (f (suc n))) (total-first f n) ∙ xor_assoc (f 0) (total_below (λ j. f (suc j)) n) (f (suc n))

pub total-weighted : (ws ys : List ℕ) → length ws ≡ length ys
    → total_below (λ j. field_product (get_or ws j 0) (get_or ys j 0)) (length ws) ≡ weighted_sum ws ys
total-weighted [] ys same = refl
total-weighted (w ∷ ws) [] same = absurd (omega arith)
total-weighted (w ∷ ws) (y ∷ ys) same =
    total-first (λ j. field_product (get_or (w ∷ ws) j 0) (get_or (y ∷ ys) j 0)) (length ws)
    ∙ ap (field_sum (field_product w y)) (total-weighted ws ys (omega arith))

-- what the tables of a row's weights have in a column is the weighted sum
row_is_weighted : (rows count len r k : ℕ) (tables : List (List ℕ)) (weights inputs : List ℕ) → r < rows → k < len
    → length weights ≡ rows * count → ((i : ℕ) → IsByte (get_or inputs i 0))
    → HoldTables rows count count weights tables
    → row_total tables rows r inputs len k count
    ≡ weighted_sum (get_or (units_in rows count weights) r []) (column_of k (units_in count len inputs))
row_is_weighted rows count len r k tables weights inputs r_below k_below whole input_bytes halves =
    let ws = get_or (units_in rows count weights) r [] in
    let units = units_in count len inputs in
    let ys = column_of k units in
    let long_ws : length ws ≡ count = length-unit rows count weights r r_below whole in
    let long_units : length units ≡ count = length-units_in count len inputs in
    let long_ys : length ys ≡ count = length-map units (λ (unit : List ℕ). get_or unit k 0) ∙ long_units in
    total-same (λ j. looked_up (get_or tables (j * rows + r) []) (get_or inputs (j * len + k) 0))
    (λ j. field_product (get_or ws j 0) (get_or ys j 0)) count
    (λ j below.
    let w = get_or weights (r * count + j) 0 in
    let b = get_or inputs (j * len + k) 0 in
    let is_b : get_or ys j 0 ≡ b = get_or-map (λ (unit : List ℕ). get_or unit k 0) units j [] 0 (omega arith) ∙ unit_byte count len inputs j k below k_below in
    looked_up-product w (get_or tables (j * rows + r) []) b (halves.table r j r_below below) (input_bytes (j * len + k))
    ∙ ap₂ field_product (sym (unit_byte rows count weights r j r_below below)) (sym is_b))
    ∙ ap (total_below (λ j. field_product (get_or ws j 0) (get_or ys j 0))) (sym long_ws)
    ∙ total-weighted ws ys (long_ws ∙ sym long_ys)

pub rows_are_weighted : (rows count len : ℕ) (tables : List (List ℕ)) (weights inputs out : List ℕ)
    → length out ≡ rows * len → length weights ≡ rows * count → ((i : ℕ) → IsByte (get_or inputs i 0))
    → HoldTables rows count count weights tables
    → RowsHold rows count len len tables inputs out → (r : ℕ) → r < rows
    → IsWeightedSum (get_or (units_in rows count weights) r []) (units_in count len inputs) (get_or (units_in rows len out) r [])
rows_are_weighted rows count len tables weights inputs out whole_out whole input_bytes halves held r below = record {
  column = λ k inside.
      let within : k < len = subst (λ n. k < n) (length-unit rows len out r below whole_out) inside in
      unit_byte rows len out r k below within ∙ held.total r k below within
      ∙ row_is_weighted rows count len r k tables weights inputs below within whole input_bytes halves;
}

-- the sum of one row
pub one_row : (count len : ℕ) (weights inputs out : List ℕ) → length out ≡ len → length weights ≡ count
    → IsWeightedSum (get_or (units_in 1 count weights) 0 []) (units_in count len inputs) (get_or (units_in 1 len out) 0 [])
    → IsWeightedSum weights (units_in count len inputs) out
one_row count len weights inputs out long many first =
    let whole : take count weights ≡ weights = take_all count weights (omega arith) in
    let whole_out : take len out ≡ out = take_all len out (omega arith) in
    let P : List ℕ → Type 0 = λ ws. IsWeightedSum ws (units_in count len inputs) (take len out) in
    let Q : List ℕ → Type 0 = λ o. IsWeightedSum weights (units_in count len inputs) o in
    subst Q whole_out (subst P whole first)
