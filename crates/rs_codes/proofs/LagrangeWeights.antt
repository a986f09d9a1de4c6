-- The weights by which values at some positions give the value at another, from those of one position less.
use Rattle.std.proofs.Common.{◌≡◌, ℕ, suc, ◌+◌, ◌<◌, List, [], ◌∷◌, ◌++◌, length, map, All, get_or, sym, ap, ap₂, subst, ◌∙◌, refl, arith, length-append, add-one}
use Rattle.std.proofs.lemmas.List.Elements.{All-head, All-tail, All-nil, All-push}
use Rattle.galois.specs.Field.{IsByte, field_sum, field_product}
use Rattle.galois.specs.Polynomial.{polynomial_value}
use Rattle.galois.proofs.FieldSums.{sum_comm, sum_assoc, sum_zero, sum_twice, sum-byte, sum_of_sums}
use Rattle.galois.proofs.FieldProducts.{product-byte, product_comm, product_assoc, product-sum, product-sum_left, one-product, product-zero, zero-product}
use Rattle.galois.proofs.PolynomialValues.{value-byte, value-nil}
use Rattle.galois.proofs.Roots.{quotient, quotient-bytes, length-quotient, value-quotient}
use Rattle.rs_codes.specs.Weights.{weighted_sum, byte_total, AreWeights}

pub byte_total-byte : (xs : List ℕ) → All IsByte xs → IsByte (byte_total xs)
byte_total-byte [] hxs = omega arith
byte_total-byte (x ∷ xs) hxs =
    sum-byte x (byte_total xs) (All-head IsByte x xs hxs) (byte_total-byte xs (All-tail IsByte x xs hxs))

pub byte_total-push : (xs : List ℕ) (x : ℕ) → byte_total (xs ++ x ∷ []) ≡ field_sum (byte_total xs) x
byte_total-push [] x = sum_zero x
byte_total-push (y ∷ xs) x = ap (field_sum y) (byte_total-push xs x) ∙ sym (sum_assoc y (byte_total xs) x)

pub weighted_sum-push : (ws ys : List ℕ) (w y : ℕ) → length ws ≡ length ys
    → weighted_sum (ws ++ w ∷ []) (ys ++ y ∷ []) ≡ field_sum (weighted_sum ws ys) (field_product w y)
weighted_sum-push [] [] w y same = sum_zero (field_product w y)
weighted_sum-push [] (z ∷ ys) w y same = absurd (omega arith)
weighted_sum-push (v ∷ ws) [] w y same = absurd (omega arith)
weighted_sum-push (v ∷ ws) (z ∷ ys) w y same =
    ap (field_sum (field_product v z)) (weighted_sum-push ws ys w y (omega arith))
    ∙ sym (sum_assoc (field_product v z) (weighted_sum ws ys) (field_product w y))

pub map-push : (f : ℕ → ℕ) (xs : List ℕ) (x : ℕ) → map f (xs ++ x ∷ []) ≡ map f xs ++ f x ∷ []
map-push f [] x = refl
map-push f (y ∷ xs) x = ap (λ (l : List ℕ). f y ∷ l) (map-push f xs x)

pub length-map_of : {A B : Type 0} (f : A → B) (xs : List A) → length (map f xs) ≡ length xs
length-map_of f [] = refl
length-map_of f (y ∷ xs) = ap suc (length-map_of f xs)

-- a weight moves a factor from one side to the other
move_step : (d y x w v q fx fy t s total : ℕ) → IsByte d → IsByte y → IsByte x → IsByte w → IsByte v → IsByte q → IsByte fx
    → IsByte s → IsByte total
    → field_product (field_sum y x) v ≡ field_product d w → fy ≡ field_sum fx (field_product (field_sum y x) q)
    → field_product d s ≡ field_sum t (field_product total fx)
    → field_product d (field_sum (field_product w q) s)
    ≡ field_sum (field_sum (field_product v fy) t) (field_product (field_sum v total) fx)
move_step d y x w v q fx fy t s total hd hy hx hw hv hq hfx hs htotal moved value rest =
    let e = field_sum y x in
    let he = sum-byte y x hy hx in
    let a = field_product v (field_product e q) in
    let vfx = field_product v fx in
    let left : field_product d (field_product w q) ≡ a =
    sym (product_assoc d w q hd hw) ∙ ap (λ (n : ℕ). field_product n q) (sym moved ∙ product_comm e v he hv)
    ∙ product_assoc v e q hv he in
    let vfy : field_product v fy ≡ field_sum vfx a =
    ap (field_product v) value ∙ product-sum v fx (field_product e q) hv hfx (product-byte e q he) in
    let twice : field_sum (field_sum vfx a) vfx ≡ a = ap (λ (n : ℕ). field_sum n vfx) (sum_comm vfx a) ∙ sum_twice a vfx in
    product-sum d (field_product w q) s hd (product-byte w q hw) hs
    ∙ ap₂ field_sum left rest
    ∙ sym (ap₂ field_sum (ap (λ (n : ℕ). field_sum n t) vfy) (product-sum_left v total fx hv htotal)
    ∙ sum_of_sums (field_sum vfx a) t vfx (field_product total fx)
    ∙ ap (λ (n : ℕ). field_sum n (field_sum t (field_product total fx))) twice)

-- the sum with new weights that moves the factor d out
moved_sum : (xs ws vs : List ℕ) (f q : ℕ → ℕ) (d x : ℕ) → length ws ≡ length xs → length vs ≡ length xs
    → All IsByte xs → All IsByte ws → All IsByte vs → IsByte d → IsByte x → IsByte (f x) → ((y : ℕ) → IsByte y → IsByte (q y))
    → ((y : ℕ) → IsByte y → f y ≡ field_sum (f x) (field_product (field_sum y x) (q y)))
    → ((k : ℕ) → k < length vs → field_product (field_sum (get_or xs k 0) x) (get_or vs k 0) ≡ field_product d (get_or ws k 0))
    → (IsByte (weighted_sum ws (map q xs)))
    × (field_product d (weighted_sum ws (map q xs)) ≡ field_sum (weighted_sum vs (map f xs)) (field_product (byte_total vs) (f x)))
moved_sum [] [] [] f q d x cw cv hxs hws hvs hd hx hfx hq value moved =
    (omega arith, product-zero d hd ∙ sym (zero-product (f x)))
moved_sum [] (w ∷ ws) vs f q d x cw cv hxs hws hvs hd hx hfx hq value moved = absurd (omega arith)
moved_sum [] [] (v ∷ vs) f q d x cw cv hxs hws hvs hd hx hfx hq value moved = absurd (omega arith)
moved_sum (y ∷ xs) [] vs f q d x cw cv hxs hws hvs hd hx hfx hq value moved = absurd (omega arith)
moved_sum (y ∷ xs) (w ∷ ws) [] f q d x cw cv hxs hws hvs hd hx hfx hq value moved = absurd (omega arith)
moved_sum (y ∷ xs) (w ∷ ws) (v ∷ vs) f q d x cw cv hxs hws hvs hd hx hfx hq value moved =
    let hy = All-head IsByte y xs hxs in
    let hw = All-head IsByte w ws hws in
    let hv = All-head IsByte v vs hvs in
    let rest = moved_sum xs ws vs f q d x (omega arith) (omega arith) (All-tail IsByte y xs hxs) (All-tail IsByte w ws hws)
    (All-tail IsByte v vs hvs) hd hx hfx hq value (λ k within. moved (suc k) (omega arith)) in (
      sum-byte (field_product w (q y)) (weighted_sum ws (map q xs)) (product-byte w (q y) hw) rest.0,
      move_step d y x w v (q y) (f x) (f y) (weighted_sum vs (map f xs)) (weighted_sum ws (map q xs)) (byte_total vs)
          hd hy hx hw hv (hq y hy) hfx rest.0 (byte_total-byte vs (All-tail IsByte v vs hvs)) (moved 0 (omega arith)) (value y hy) rest.1,
    )

length-quotient_of : (a n : ℕ) (cs : List ℕ) → length cs ≡ suc n → length (quotient a cs) ≡ n
length-quotient_of a n [] many = absurd (omega arith)
length-quotient_of a n (c ∷ cs) many = length-quotient a c cs ∙ omega arith

-- the value of a polynomial by the weights with one position more
exact_more : (xs ws vs : List ℕ) (x want total : ℕ) (cs : List ℕ) → AreWeights xs want ws → All IsByte xs → IsByte x
    → IsByte want → length vs ≡ length ws → All IsByte vs
    → ((k : ℕ) → k < length vs → field_product (field_sum (get_or xs k 0) x) (get_or vs k 0) ≡ field_product (field_sum want x) (get_or ws k 0))
    → total ≡ field_sum 1 (byte_total vs) → All IsByte cs → length cs ≡ suc (length xs)
    → polynomial_value cs want ≡ weighted_sum (vs ++ total ∷ []) (map (polynomial_value cs) (xs ++ x ∷ []))
exact_more xs ws vs x want total cs weights hxs hx hwant same hvs moved is_total hcs degree =
    let f = polynomial_value cs in
    let left = quotient x cs in
    let hleft = quotient-bytes x cs hx hcs in
    let d = field_sum want x in
    let hd = sum-byte want x hwant hx in
    let fx = f x in
    let hfx = value-byte cs x hcs hx in
    let t = byte_total vs in
    let ht = byte_total-byte vs hvs in
    let sums = moved_sum xs ws vs f (polynomial_value left) d x weights.count (same ∙ weights.count) hxs weights.bytes hvs hd hx hfx
    (λ y hy. value-byte left y hleft hy) (λ y hy. value-quotient x cs y hx hcs hy) moved in
    let rest = weights.exact left hleft (length-quotient_of x (length xs) cs degree) in
    let taken = weighted_sum vs (map f xs) in
    let whole : field_product total fx ≡ field_sum fx (field_product t fx) =
    ap (λ (n : ℕ). field_product n fx) is_total ∙ product-sum_left 1 t fx (omega arith) ht
    ∙ ap (λ (n : ℕ). field_sum n (field_product t fx)) (one-product fx hfx) in
    value-quotient x cs want hx hcs hwant
    ∙ ap (λ (n : ℕ). field_sum fx (field_product d n)) rest
    ∙ ap (field_sum fx) sums.1
    ∙ sym (sum_assoc fx taken (field_product t fx)) ∙ ap (λ (n : ℕ). field_sum n (field_product t fx)) (sum_comm fx taken)
    ∙ sum_assoc taken fx (field_product t fx) ∙ ap (field_sum taken) (sym whole)
    ∙ sym (ap (weighted_sum (vs ++ total ∷ [])) (map-push f xs x)
    ∙ weighted_sum-push vs (map f xs) total fx (same ∙ weights.count ∙ sym (length-map_of f xs)))

-- the weights with one position more
pub weights_more : (xs ws vs : List ℕ) (x want total : ℕ) → AreWeights xs want ws → All IsByte xs → IsByte x → IsByte want
    → length vs ≡ length ws → All IsByte vs
    → ((k : ℕ) → k < length vs → field_product (field_sum (get_or xs k 0) x) (get_or vs k 0) ≡ field_product (field_sum want x) (get_or ws k 0))
    → total ≡ field_sum 1 (byte_total vs) → AreWeights (xs ++ x ∷ []) want (vs ++ total ∷ [])
weights_more xs ws vs x want total weights hxs hx hwant same hvs moved is_total = record {
  count = length-append vs (total ∷ []) ∙ ap (λ (n : ℕ). n + 1) (same ∙ weights.count) ∙ sym (length-append xs (x ∷ []));
  bytes = All-push IsByte vs total hvs (subst IsByte (sym is_total) (sum-byte 1 (byte_total vs) (omega arith) (byte_total-byte vs hvs)));
  exact = λ cs hcs degree.
      exact_more xs ws vs x want total cs weights hxs hx hwant same hvs moved is_total hcs
      (degree ∙ length-append xs (x ∷ []) ∙ add-one (length xs));
}

no_coefficient : (cs : List ℕ) (x : ℕ) → length cs ≡ 0 → polynomial_value cs x ≡ 0
no_coefficient [] x none = value-nil x
no_coefficient (c ∷ cs) x none = absurd (omega arith)

-- no weight is needed where there is no position
pub weights_none : (want : ℕ) → AreWeights [] want []
weights_none want = record {
  count = refl;
  bytes = All-nil IsByte;
  exact = λ cs hcs degree. no_coefficient cs want degree;
}
