-- A polynomial that is zero at as many different elements as it has coefficients is zero, so that values at as many
-- elements determine it.
use Rattle.std.proofs.Common.{◌≡◌, ◌≢◌, ℕ, suc, ◌<◌, ◌≤◌, List, [], ◌∷◌, length, All, AllPairs, get_or, sym, ap, ap₂, ◌∙◌, refl, arith}
use Rattle.std.proofs.lemmas.List.Elements.{All-head, All-tail, All-cons, All-nil}
use Rattle.galois.specs.Field.{IsByte, field_sum, field_product}
use Rattle.galois.specs.Polynomial.{polynomial_value, added}
use Rattle.galois.proofs.FieldSums.{sum_zero, sum_self, sum-byte, same_from_sum}
use Rattle.galois.proofs.FieldProducts.{product-zero, one-product}
use Rattle.galois.proofs.Inverses.{zero_factor, difference_not_zero}
use Rattle.galois.proofs.PolynomialValues.{value-nil, value-cons, value-byte, added-bytes, length-added, value-added, factor_step}

-- a number is zero
abbrev pub IsZero : ℕ → Type 0
IsZero c = c ≡ 0

-- the polynomial that is left when the factor x + a is taken out
abbrev pub quotient : ℕ → List ℕ → List ℕ
quotient a [] = []
quotient a (c ∷ []) = []
quotient a (c ∷ d ∷ cs) = polynomial_value (d ∷ cs) a ∷ quotient a (d ∷ cs)

pub quotient-bytes : (a : ℕ) (cs : List ℕ) → IsByte a → All IsByte cs → All IsByte (quotient a cs)
quotient-bytes a [] ha hcs = hcs
quotient-bytes a (c ∷ []) ha hcs = All-nil IsByte
quotient-bytes a (c ∷ d ∷ cs) ha hcs =
    let rest = All-tail IsByte c (d ∷ cs) hcs in
    All-cons IsByte (polynomial_value (d ∷ cs) a) (quotient a (d ∷ cs)) (value-byte (d ∷ cs) a rest ha) (quotient-bytes a (d ∷ cs) ha rest)

pub length-quotient : (a c : ℕ) (cs : List ℕ) → length (quotient a (c ∷ cs)) ≡ length cs
length-quotient a c [] = refl
length-quotient a c (d ∷ cs) = ap suc (length-quotient a d cs)

-- what is left over is the value at a
pub value-quotient : (a : ℕ) (cs : List ℕ) (x : ℕ) → IsByte a → All IsByte cs → IsByte x
    → polynomial_value cs x ≡ field_sum (polynomial_value cs a) (field_product (field_sum x a) (polynomial_value (quotient a cs) x))
value-quotient a [] x ha hcs hx =
    value-nil x
    ∙ sym (ap₂ field_sum (value-nil a) (ap (field_product (field_sum x a)) (value-nil x) ∙ product-zero (field_sum x a) (sum-byte x a hx ha)))
value-quotient a (c ∷ []) x ha hcs hx =
    let hc = All-head IsByte c [] hcs in
    let constant : (z : ℕ) → IsByte z → polynomial_value (c ∷ []) z ≡ c = λ z hz.
    value-cons c [] z hc (All-nil IsByte) hz
    ∙ ap (field_sum c) (ap (field_product z) (value-nil z) ∙ product-zero z hz) ∙ sum_zero c in
    constant x hx
    ∙ sym (ap₂ field_sum (constant a ha) (ap (field_product (field_sum x a)) (value-nil x) ∙ product-zero (field_sum x a) (sum-byte x a hx ha)) ∙ sum_zero c)
value-quotient a (c ∷ d ∷ cs) x ha hcs hx =
    let hc = All-head IsByte c (d ∷ cs) hcs in
    let rest = All-tail IsByte c (d ∷ cs) hcs in
    let v = polynomial_value (d ∷ cs) a in
    let hv = value-byte (d ∷ cs) a rest ha in
    let left = quotient a (d ∷ cs) in
    let hleft = quotient-bytes a (d ∷ cs) ha rest in
    let q = polynomial_value left x in
    let hq = value-byte left x hleft hx in
    value-cons c (d ∷ cs) x hc rest hx
    ∙ ap (λ (n : ℕ). field_sum c (field_product x n)) (value-quotient a (d ∷ cs) x ha rest hx)
    ∙ factor_step c x a v q hc hx ha hv hq
    ∙ sym (ap₂ field_sum (value-cons c (d ∷ cs) a hc rest ha)
    (ap (field_product (field_sum x a)) (value-cons v left x hv hleft hx)))

-- a polynomial is zero that is zero at a and leaves zero when x + a is taken out
zero_from_quotient : (a : ℕ) (cs : List ℕ) → IsByte a → All IsByte cs → polynomial_value cs a ≡ 0
    → All IsZero (quotient a cs) → All IsZero cs
zero_from_quotient a [] ha hcs root none = All-nil IsZero
zero_from_quotient a (c ∷ []) ha hcs root none =
    let hc = All-head IsByte c [] hcs in
    All-cons IsZero c []
    (sym (value-cons c [] a hc (All-nil IsByte) ha
    ∙ ap (field_sum c) (ap (field_product a) (value-nil a) ∙ product-zero a ha) ∙ sum_zero c) ∙ root)
    (All-nil IsZero)
zero_from_quotient a (c ∷ d ∷ cs) ha hcs root none =
    let hc = All-head IsByte c (d ∷ cs) hcs in
    let rest = All-tail IsByte c (d ∷ cs) hcs in
    let v_zero = All-head IsZero (polynomial_value (d ∷ cs) a) (quotient a (d ∷ cs)) none in
    let left_zero = All-tail IsZero (polynomial_value (d ∷ cs) a) (quotient a (d ∷ cs)) none in
    All-cons IsZero c (d ∷ cs)
    (sym (value-cons c (d ∷ cs) a hc rest ha
    ∙ ap (field_sum c) (ap (field_product a) v_zero ∙ product-zero a ha) ∙ sum_zero c) ∙ root)
    (zero_from_quotient a (d ∷ cs) ha rest v_zero left_zero)

-- of different elements, the first is none of the rest, and the rest are different
pub different_first : (x : ℕ) (xs : List ℕ) → AllPairs ◌≢◌ (x ∷ xs) → (i : ℕ) (d : ℕ) → i < length xs → x ≢ get_or xs i d
different_first x xs pairs i d within = pairs 0 (suc i) d (omega arith) (omega arith)

pub different_rest : (x : ℕ) (xs : List ℕ) → AllPairs ◌≢◌ (x ∷ xs) → AllPairs ◌≢◌ xs
different_rest x xs pairs i j d less within = pairs (suc i) (suc j) d (omega arith) (omega arith)

-- with as many different roots as coefficients, all coefficients are zero
pub zero_from_roots : (xs cs : List ℕ) → All IsByte xs → All IsByte cs → AllPairs ◌≢◌ xs
    → All (λ x. polynomial_value cs x ≡ 0) xs → length cs ≤ length xs → All IsZero cs
zero_from_roots [] [] hxs hcs different roots many = All-nil IsZero
zero_from_roots [] (c ∷ cs) hxs hcs different roots many = absurd (omega arith)
zero_from_roots (a ∷ xs) [] hxs hcs different roots many = All-nil IsZero
zero_from_roots (a ∷ xs) (c ∷ cs) hxs hcs different roots many =
    let ha = All-head IsByte a xs hxs in
    let rest = All-tail IsByte a xs hxs in
    let left = quotient a (c ∷ cs) in
    let hleft = quotient-bytes a (c ∷ cs) ha hcs in
    let root : polynomial_value (c ∷ cs) a ≡ 0 = roots 0 0 (omega arith) in
    let left_roots : All (λ x. polynomial_value left x ≡ 0) xs = λ i d within.
    let x = get_or xs i d in
    let hx : IsByte x = rest i d within in
    let root_x : polynomial_value (c ∷ cs) x ≡ 0 = roots (suc i) d (omega arith) in
    let other : x ≢ a = λ same. different_first a xs different i d within (sym same) in
    zero_factor (field_sum x a) (polynomial_value left x) (sum-byte x a hx ha) (value-byte left x hleft hx)
    (difference_not_zero x a other)
    (sym (value-quotient a (c ∷ cs) x ha hcs hx
    ∙ ap (λ (n : ℕ). field_sum n (field_product (field_sum x a) (polynomial_value left x))) root) ∙ root_x) in
    zero_from_quotient a (c ∷ cs) ha hcs root
    (zero_from_roots xs left rest hleft (different_rest a xs different) left_roots
    (omega (arith, length-quotient a c cs)))

-- lists whose difference is zero are equal
same_from_difference : (ps qs : List ℕ) → All IsByte qs → length ps ≡ length qs → All IsZero (added 1 ps qs) → ps ≡ qs
same_from_difference [] [] hq same none = refl
same_from_difference [] (q ∷ qs) hq same none = absurd (omega arith)
same_from_difference (p ∷ ps) [] hq same none = absurd (omega arith)
same_from_difference (p ∷ ps) (q ∷ qs) hq same none =
    let first = All-head IsZero (field_sum p (field_product 1 q)) (added 1 ps qs) none in
    let rest = All-tail IsZero (field_sum p (field_product 1 q)) (added 1 ps qs) none in
    let equal : p ≡ q = same_from_sum p q (sym (ap (field_sum p) (one-product q (All-head IsByte q qs hq))) ∙ first) in
    ap₂ (λ (n : ℕ) (ns : List ℕ). n ∷ ns) equal (same_from_difference ps qs (All-tail IsByte q qs hq) (omega arith) rest)

-- values at as many different elements as there are coefficients determine a polynomial
pub same_from_values : (xs ps qs : List ℕ) → All IsByte xs → All IsByte ps → All IsByte qs → AllPairs ◌≢◌ xs
    → length ps ≡ length qs → length ps ≤ length xs
    → All (λ x. polynomial_value ps x ≡ polynomial_value qs x) xs → ps ≡ qs
same_from_values xs ps qs hxs hps hqs different same many agree =
    let one : IsByte 1 = omega arith in
    let difference = added 1 ps qs in
    let hdifference = added-bytes 1 ps qs one hps in
    let roots : All (λ x. polynomial_value difference x ≡ 0) xs = λ i d within.
    let x = get_or xs i d in
    let hx : IsByte x = hxs i d within in
    value-added 1 ps qs x one hps hqs hx same
    ∙ ap₂ field_sum (agree i d within) (one-product (polynomial_value qs x) (value-byte qs x hqs hx))
    ∙ sum_self (polynomial_value qs x) in
    same_from_difference ps qs hqs same
    (zero_from_roots xs difference hxs hdifference different roots (omega (arith, length-added 1 ps qs)))
