-- One step of a weighted sum.
use Rattle.std.proofs.Common.{◌≡◌, ℕ, suc, ◌+◌, ◌-◌, ◌*◌, ◌<◌, List, ◌∷◌, length, take, drop, get_or, sym, ap, ap₂, ◌∙◌, arith, suc-mul, add-one, drop-cons, length-drop}
use Rattle.galois.specs.Field.{field_sum, field_product}
use Rattle.galois.proofs.FieldSums.{sum_assoc}
use Rattle.rs_codes.specs.Units.{units_in, column_of}
use Rattle.rs_codes.specs.Weights.{weighted_sum}

-- the bytes that are left when one more unit was taken
pub left_step : (count i len : ℕ) (rest back : List ℕ) → i < count → length rest ≡ (count - i) * len
    → back ≡ drop len rest → length back ≡ (count - (i + 1)) * len
left_step count i len rest back within left is_back =
    let next : count - i ≡ suc (count - (i + 1)) = omega arith in
    let rows : length rest ≡ (count - (i + 1)) * len + len =
    left ∙ ap (λ (n : ℕ). n * len) next ∙ suc-mul (count - (i + 1)) len in
    ap (λ (l : List ℕ). length l) is_back ∙ length-drop len rest ∙ omega arith

-- the sum that is left when one more unit was added
pub sums_step : (weights : List ℕ) (i len k : ℕ) (rest front back : List ℕ) (total old new : ℕ) → i < length weights
    → front ≡ take len rest → back ≡ drop len rest
    → new ≡ field_sum old (field_product (get_or weights i 0) (get_or front k 0))
    → total ≡ field_sum old (weighted_sum (drop i weights) (column_of k (units_in (length weights - i) len rest)))
    → total ≡ field_sum new (weighted_sum (drop (i + 1) weights) (column_of k (units_in (length weights - (i + 1)) len back)))
sums_step weights i len k rest front back total old new within is_front is_back is_new is_total =
    let w = get_or weights i 0 in
    let next : length weights - i ≡ suc (length weights - (i + 1)) = omega arith in
    let opened : drop i weights ≡ w ∷ drop (i + 1) weights =
    drop-cons weights i 0 within ∙ ap (λ (n : ℕ). w ∷ drop n weights) (sym (add-one i)) in
    let tail = weighted_sum (drop (i + 1) weights) (column_of k (units_in (length weights - (i + 1)) len back)) in
    is_total
    ∙ ap₂ (λ (ws : List ℕ) (n : ℕ). field_sum old (weighted_sum ws (column_of k (units_in n len rest)))) opened next
    ∙ ap₂ (λ (f b : List ℕ). field_sum old (field_sum (field_product w (get_or f k 0)) (weighted_sum (drop (i + 1) weights) (column_of k (units_in (length weights - (i + 1)) len b)))))
    (sym is_front) (sym is_back)
    ∙ sym (sum_assoc old (field_product w (get_or front k 0)) tail)
    ∙ ap (λ (n : ℕ). field_sum n tail) (sym is_new)
