-- Some polynomial takes any given values at different elements.
use Rattle.std.proofs.Common.{◌≡◌, ◌≢◌, ℕ, zero, suc, ◌<◌, List, [], ◌∷◌, length, All, AllPairs, get_or, sym, ap, ap₂, ◌∙◌, refl, arith}
use Rattle.std.proofs.lemmas.List.Elements.{All-head, All-tail, All-cons, All-nil}
use Rattle.galois.specs.Field.{IsByte, field_sum, field_product}
use Rattle.galois.specs.Polynomial.{polynomial_value, linear_times}
use Rattle.galois.proofs.FieldSums.{sum_comm, sum_zero, sum_self, sum_twice, sum-byte}
use Rattle.galois.proofs.FieldProducts.{product-byte, product_comm, product_assoc, one-product, product-zero, zero-product}
use Rattle.galois.proofs.Inverses.{inverse, inverse-byte, product-inverse, difference_not_zero}
use Rattle.galois.proofs.PolynomialValues.{value-nil, value-cons, value-byte, factor_step}
use Rattle.galois.proofs.Roots.{different_first, different_rest}

pub linear_times-bytes : (a c : ℕ) (qs : List ℕ) → IsByte a → IsByte c → All IsByte qs → All IsByte (linear_times a c qs)
linear_times-bytes a c [] ha hc hqs = All-cons IsByte c [] hc (All-nil IsByte)
linear_times-bytes a c (q ∷ qs) ha hc hqs =
    All-cons IsByte (field_sum c (field_product a q)) (linear_times a q qs) (sum-byte c (field_product a q) hc (product-byte a q ha))
    (linear_times-bytes a q qs ha (All-head IsByte q qs hqs) (All-tail IsByte q qs hqs))

pub length-linear_times : (a c : ℕ) (qs : List ℕ) → length (linear_times a c qs) ≡ suc (length qs)
length-linear_times a c [] = refl
length-linear_times a c (q ∷ qs) = ap suc (length-linear_times a q qs)

pub value-linear_times : (a c : ℕ) (qs : List ℕ) (x : ℕ) → IsByte a → IsByte c → All IsByte qs → IsByte x
    → polynomial_value (linear_times a c qs) x ≡ field_sum c (field_product (field_sum x a) (polynomial_value qs x))
value-linear_times a c [] x ha hc hqs hx =
    value-cons c [] x hc (All-nil IsByte) hx
    ∙ ap (field_sum c) (ap (field_product x) (value-nil x) ∙ product-zero x hx)
    ∙ sym (ap (field_sum c) (ap (field_product (field_sum x a)) (value-nil x) ∙ product-zero (field_sum x a) (sum-byte x a hx ha)))
value-linear_times a c (q ∷ qs) x ha hc hqs hx =
    let hq = All-head IsByte q qs hqs in
    let rest = All-tail IsByte q qs hqs in
    let v = polynomial_value qs x in
    let hv = value-byte qs x rest hx in
    let d = field_sum x a in
    let aq = field_product a q in
    let haq = product-byte a q ha in
    value-cons (field_sum c aq) (linear_times a q qs) x (sum-byte c aq hc haq) (linear_times-bytes a q qs ha hq rest) hx
    ∙ ap (λ (n : ℕ). field_sum (field_sum c aq) (field_product x n)) (value-linear_times a q qs x ha hq rest hx)
    ∙ factor_step (field_sum c aq) x a q v (sum-byte c aq hc haq) hx ha hq hv
    ∙ ap₂ field_sum (sum_twice c aq) (ap (field_product d) (sym (value-cons q qs x hq rest hx)))

-- the values that are left to take when the value y at x is taken out
abbrev pub divided : ℕ → ℕ → List ℕ → List ℕ → List ℕ
divided x y [] ys = []
divided x y (z ∷ zs) [] = []
divided x y (z ∷ zs) (v ∷ vs) = field_product (field_sum v y) (inverse (field_sum z x)) ∷ divided x y zs vs

length-divided : (x y : ℕ) (zs vs : List ℕ) → length zs ≡ length vs → length (divided x y zs vs) ≡ length zs
length-divided x y [] vs same = refl
length-divided x y (z ∷ zs) [] same = absurd (omega arith)
length-divided x y (z ∷ zs) (v ∷ vs) same = ap suc (length-divided x y zs vs (omega arith))

divided-bytes : (x y : ℕ) (zs vs : List ℕ) → IsByte y → All IsByte vs → All IsByte (divided x y zs vs)
divided-bytes x y [] vs hy hvs = All-nil IsByte
divided-bytes x y (z ∷ zs) [] hy hvs = All-nil IsByte
divided-bytes x y (z ∷ zs) (v ∷ vs) hy hvs =
    All-cons IsByte (field_product (field_sum v y) (inverse (field_sum z x))) (divided x y zs vs)
    (product-byte (field_sum v y) (inverse (field_sum z x)) (sum-byte v y (All-head IsByte v vs hvs) hy))
    (divided-bytes x y zs vs hy (All-tail IsByte v vs hvs))

divided-at : (x y : ℕ) (zs vs : List ℕ) (i : ℕ) → length zs ≡ length vs → i < length zs
    → get_or (divided x y zs vs) i 0 ≡ field_product (field_sum (get_or vs i 0) y) (inverse (field_sum (get_or zs i 0) x))
divided-at x y [] vs i same within = absurd (omega arith)
divided-at x y (z ∷ zs) [] i same within = absurd (omega arith)
divided-at x y (z ∷ zs) (v ∷ vs) zero same within = refl
divided-at x y (z ∷ zs) (v ∷ vs) (suc i) same within = divided-at x y zs vs i (omega arith) (omega arith)

-- the polynomial, with as many coefficients as there are elements, that takes these values at these elements
abbrev pub interpolated : List ℕ → List ℕ → List ℕ
interpolated [] ys = []
interpolated (x ∷ xs) [] = []
interpolated (x ∷ xs) (y ∷ ys) = linear_times x y (interpolated xs (divided x y xs ys))

pub length-interpolated : (xs ys : List ℕ) → length xs ≡ length ys → length (interpolated xs ys) ≡ length xs
length-interpolated [] ys same = refl
length-interpolated (x ∷ xs) [] same = absurd (omega arith)
length-interpolated (x ∷ xs) (y ∷ ys) same =
    let left : length xs ≡ length ys = omega arith in
    length-linear_times x y (interpolated xs (divided x y xs ys))
    ∙ ap suc (length-interpolated xs (divided x y xs ys) (sym (length-divided x y xs ys left)))

pub interpolated-bytes : (xs ys : List ℕ) → All IsByte xs → All IsByte ys → All IsByte (interpolated xs ys)
interpolated-bytes [] ys hxs hys = All-nil IsByte
interpolated-bytes (x ∷ xs) [] hxs hys = All-nil IsByte
interpolated-bytes (x ∷ xs) (y ∷ ys) hxs hys =
    let hy = All-head IsByte y ys hys in
    linear_times-bytes x y (interpolated xs (divided x y xs ys)) (All-head IsByte x xs hxs) hy
    (interpolated-bytes xs (divided x y xs ys) (All-tail IsByte x xs hxs)
    (divided-bytes x y xs ys hy (All-tail IsByte y ys hys)))

-- at x the value y is taken, and elsewhere what is left times the difference is added
pub interpolated-takes : (xs ys : List ℕ) → All IsByte xs → All IsByte ys → AllPairs ◌≢◌ xs → length xs ≡ length ys
    → (i : ℕ) → i < length xs → polynomial_value (interpolated xs ys) (get_or xs i 0) ≡ get_or ys i 0
interpolated-takes [] ys hxs hys different same i within = absurd (omega arith)
interpolated-takes (x ∷ xs) [] hxs hys different same i within = absurd (omega arith)
interpolated-takes (x ∷ xs) (y ∷ ys) hxs hys different same zero within =
    let hx = All-head IsByte x xs hxs in
    let hy = All-head IsByte y ys hys in
    let left = interpolated xs (divided x y xs ys) in
    let hleft = interpolated-bytes xs (divided x y xs ys) (All-tail IsByte x xs hxs) (divided-bytes x y xs ys hy (All-tail IsByte y ys hys)) in
    value-linear_times x y left x hx hy hleft hx
    ∙ ap (field_sum y) (ap (λ (n : ℕ). field_product n (polynomial_value left x)) (sum_self x) ∙ zero-product (polynomial_value left x))
    ∙ sum_zero y
interpolated-takes (x ∷ xs) (y ∷ ys) hxs hys different same (suc i) within =
    let hx = All-head IsByte x xs hxs in
    let hxs' = All-tail IsByte x xs hxs in
    let hy = All-head IsByte y ys hys in
    let hys' = All-tail IsByte y ys hys in
    let left = interpolated xs (divided x y xs ys) in
    let hdivided = divided-bytes x y xs ys hy hys' in
    let hleft = interpolated-bytes xs (divided x y xs ys) hxs' hdivided in
    let lengths : length xs ≡ length ys = omega arith in
    let inside : i < length xs = omega arith in
    let z = get_or xs i 0 in
    let v = get_or ys i 0 in
    let hz : IsByte z = hxs' i 0 inside in
    let hv : IsByte v = hys' i 0 (omega arith) in
    let d = field_sum z x in
    let hd = sum-byte z x hz hx in
    let other : z ≢ x = λ equal. different_first x xs different i 0 inside (sym equal) in
    let rest : polynomial_value left z ≡ field_product (field_sum v y) (inverse d) =
    interpolated-takes xs (divided x y xs ys) hxs' hdivided (different_rest x xs different) (sym (length-divided x y xs ys lengths)) i inside
    ∙ divided-at x y xs ys i lengths inside in
    let whole : field_product d (field_product (field_sum v y) (inverse d)) ≡ field_sum v y =
    ap (field_product d) (product_comm (field_sum v y) (inverse d) (sum-byte v y hv hy) (inverse-byte d hd))
    ∙ sym (product_assoc d (inverse d) (field_sum v y) hd (inverse-byte d hd))
    ∙ ap (λ (n : ℕ). field_product n (field_sum v y)) (product-inverse d hd (difference_not_zero z x other))
    ∙ one-product (field_sum v y) (sum-byte v y hv hy) in
    value-linear_times x y left z hx hy hleft hz ∙ ap (field_sum y) (ap (field_product d) rest ∙ whole)
    ∙ sum_comm y (field_sum v y) ∙ sum_twice v y
