-- Horner's rule from the last coefficient to the first.
use Rattle.std.proofs.Common.{◌≡◌, ℕ, suc, ◌-◌, ◌<◌, ◌≤◌, List, ◌∷◌, length, drop, All, get_or, sym, ap, ◌∙◌, arith, drop-cons, Fits, w8}
use Rattle.std.proofs.lemmas.List.{drop_all}
use Rattle.std.proofs.lemmas.List.Elements.{All-drop, All-from_get_or}
use Rattle.galois.specs.Field.{IsByte, field_sum, field_product}
use Rattle.galois.specs.Polynomial.{polynomial_value}
use Rattle.galois.proofs.PolynomialValues.{value-nil, value-cons}

-- a list each of whose entries is a byte
pub bytes_by_entry : (cs : List ℕ) → ((k : ℕ) → Fits w8 (get_or cs k 0)) → All IsByte cs
bytes_by_entry cs bytes =
    All-from_get_or IsByte cs 0 (λ k within. let fits : Fits w8 (get_or cs k 0) = bytes k in omega arith)

-- with no coefficient used the value is zero
pub horner_start : (cs : List ℕ) (x : ℕ) → 0 ≡ polynomial_value (drop (length cs) cs) x
horner_start cs x =
    sym (ap (λ (l : List ℕ). polynomial_value l x) (drop_all (length cs) cs (omega arith)) ∙ value-nil x)

-- one more coefficient
pub horner_step : (cs : List ℕ) (x i v : ℕ) → ((k : ℕ) → Fits w8 (get_or cs k 0)) → IsByte x → 0 < i → i ≤ length cs
    → v ≡ polynomial_value (drop i cs) x
    → field_sum (get_or cs (i - 1) 0) (field_product x v) ≡ polynomial_value (drop (i - 1) cs) x
horner_step cs x i v bytes hx some within value =
    let next : suc (i - 1) ≡ i = omega arith in
    let inside : i - 1 < length cs = omega arith in
    let opened : drop (i - 1) cs ≡ get_or cs (i - 1) 0 ∷ drop i cs =
    drop-cons cs (i - 1) 0 inside ∙ ap (λ (n : ℕ). get_or cs (i - 1) 0 ∷ drop n cs) next in
    ap (λ (n : ℕ). field_sum (get_or cs (i - 1) 0) (field_product x n)) value
    ∙ sym (value-cons (get_or cs (i - 1) 0) (drop i cs) x (bytes_by_entry cs bytes (i - 1) 0 inside) (All-drop IsByte i cs (bytes_by_entry cs bytes)) hx)
    ∙ sym (ap (λ (l : List ℕ). polynomial_value l x) opened)
