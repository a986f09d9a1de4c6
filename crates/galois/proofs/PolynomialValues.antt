-- The value of a polynomial: one step of Horner's rule, sums and multiples, and a factor taken out.
use Rattle.std.proofs.Common.{◌≡◌, ℕ, zero, suc, List, [], ◌∷◌, length, All, sym, ap, ap₂, ◌∙◌, refl, arith}
use Rattle.std.proofs.lemmas.List.Elements.{All-head, All-tail, All-cons}
use Rattle.galois.specs.Field.{IsByte, field_sum, field_product, field_power}
use Rattle.galois.specs.Polynomial.{value_from, polynomial_value, added}
use Rattle.galois.proofs.FieldSums.{sum_assoc, sum_zero, sum_self, sum-byte, sum_of_sums}
use Rattle.galois.proofs.FieldProducts.{product-byte, product_comm, product_assoc, product-sum, product-sum_left, product-one, product-zero}

pub power-byte : (x d : ℕ) → IsByte x → IsByte (field_power x d)
unfolding field_power
power-byte x zero hx = omega arith
power-byte x (suc d) hx = product-byte x (field_power x d) hx

pub product_left_comm : (a b c : ℕ) → IsByte a → IsByte b → field_product a (field_product b c) ≡ field_product b (field_product a c)
product_left_comm a b c ha hb =
    sym (product_assoc a b c ha hb) ∙ ap (λ (n : ℕ). field_product n c) (product_comm a b ha hb) ∙ product_assoc b a c hb ha

value_from-byte : (cs : List ℕ) (d x : ℕ) → All IsByte cs → IsByte x → IsByte (value_from cs d x)
unfolding value_from
value_from-byte [] d x hc hx = omega arith
value_from-byte (c ∷ cs) d x hc hx =
    sum-byte (field_product c (field_power x d)) (value_from cs (suc d) x)
    (product-byte c (field_power x d) (All-head IsByte c cs hc))
    (value_from-byte cs (suc d) x (All-tail IsByte c cs hc) hx)

-- terms of one degree more
value_from-suc : (cs : List ℕ) (d x : ℕ) → All IsByte cs → IsByte x → value_from cs (suc d) x ≡ field_product x (value_from cs d x)
unfolding value_from field_power
value_from-suc [] d x hc hx = sym (product-zero x hx)
value_from-suc (c ∷ cs) d x hc hx =
    let hhead = All-head IsByte c cs hc in
    let htail = All-tail IsByte c cs hc in
    ap₂ field_sum (product_left_comm c x (field_power x d) hhead hx) (value_from-suc cs (suc d) x htail hx)
    ∙ sym (product-sum x (field_product c (field_power x d)) (value_from cs (suc d) x) hx
    (product-byte c (field_power x d) hhead) (value_from-byte cs (suc d) x htail hx))

pub value-byte : (cs : List ℕ) (x : ℕ) → All IsByte cs → IsByte x → IsByte (polynomial_value cs x)
unfolding polynomial_value
value-byte cs x hc hx = value_from-byte cs 0 x hc hx

pub value-nil : (x : ℕ) → polynomial_value [] x ≡ 0
unfolding polynomial_value value_from
value-nil x = refl

-- Horner's rule
pub value-cons : (c : ℕ) (cs : List ℕ) (x : ℕ) → IsByte c → All IsByte cs → IsByte x
    → polynomial_value (c ∷ cs) x ≡ field_sum c (field_product x (polynomial_value cs x))
unfolding polynomial_value value_from field_power
value-cons c cs x hc hcs hx = ap₂ field_sum (product-one c hc) (value_from-suc cs 0 x hcs hx)

pub added-bytes : (s : ℕ) (ps qs : List ℕ) → IsByte s → All IsByte ps → All IsByte (added s ps qs)
added-bytes s [] qs hs ha = ha
added-bytes s (a ∷ ps) [] hs ha = ha
added-bytes s (a ∷ ps) (b ∷ qs) hs ha =
    All-cons IsByte (field_sum a (field_product s b)) (added s ps qs)
    (sum-byte a (field_product s b) (All-head IsByte a ps ha) (product-byte s b hs))
    (added-bytes s ps qs hs (All-tail IsByte a ps ha))

pub length-added : (s : ℕ) (ps qs : List ℕ) → length (added s ps qs) ≡ length ps
length-added s [] qs = refl
length-added s (a ∷ ps) [] = refl
length-added s (a ∷ ps) (b ∷ qs) = ap suc (length-added s ps qs)

pub value-added : (s : ℕ) (ps qs : List ℕ) (x : ℕ) → IsByte s → All IsByte ps → All IsByte qs → IsByte x → length ps ≡ length qs
    → polynomial_value (added s ps qs) x ≡ field_sum (polynomial_value ps x) (field_product s (polynomial_value qs x))
value-added s [] [] x hs ha hb hx same =
    value-nil x ∙ sym (ap₂ field_sum (value-nil x) (ap (field_product s) (value-nil x) ∙ product-zero s hs))
value-added s [] (b ∷ qs) x hs ha hb hx same = absurd (omega arith)
value-added s (a ∷ ps) [] x hs ha hb hx same = absurd (omega arith)
value-added s (a ∷ ps) (b ∷ qs) x hs ha hb hx same =
    let ha0 = All-head IsByte a ps ha in let has = All-tail IsByte a ps ha in
    let hb0 = All-head IsByte b qs hb in let hbs = All-tail IsByte b qs hb in
    let va = polynomial_value ps x in let vb = polynomial_value qs x in
    let hva = value-byte ps x has hx in let hvb = value-byte qs x hbs hx in
    value-cons (field_sum a (field_product s b)) (added s ps qs) x (sum-byte a (field_product s b) ha0 (product-byte s b hs)) (added-bytes s ps qs hs has) hx
    ∙ ap (λ (v : ℕ). field_sum (field_sum a (field_product s b)) (field_product x v)) (value-added s ps qs x hs has hbs hx (omega arith))
    ∙ ap (field_sum (field_sum a (field_product s b)))
    (product-sum x va (field_product s vb) hx hva (product-byte s vb hs)
    ∙ ap (field_sum (field_product x va)) (product_left_comm x s vb hx hs))
    ∙ sum_of_sums a (field_product s b) (field_product x va) (field_product s (field_product x vb))
    ∙ ap₂ field_sum (sym (value-cons a ps x ha0 has hx))
    (sym (product-sum s b (field_product x vb) hs hb0 (product-byte x vb hx)) ∙ ap (field_product s) (sym (value-cons b qs x hb0 hbs hx)))

-- a factor x + a beside a constant, one step of Horner's rule in x further in
pub factor_step : (c x a v q : ℕ) → IsByte c → IsByte x → IsByte a → IsByte v → IsByte q
    → field_sum c (field_product x (field_sum v (field_product (field_sum x a) q)))
    ≡ field_sum (field_sum c (field_product a v)) (field_product (field_sum x a) (field_sum v (field_product x q)))
factor_step c x a v q hc hx ha hv hq =
    let d = field_sum x a in let hd = sum-byte x a hx ha in
    let xv = field_product x v in let av = field_product a v in
    let right : field_product d (field_sum v (field_product x q)) ≡ field_sum (field_sum xv av) (field_product x (field_product d q)) =
    product-sum d v (field_product x q) hd hv (product-byte x q hx)
    ∙ ap₂ field_sum (product-sum_left x a v hx ha) (product_left_comm d x q hd hx) in
    let twice : field_sum (field_sum c av) (field_sum xv av) ≡ field_sum c xv =
    sum_of_sums c av xv av ∙ ap (field_sum (field_sum c xv)) (sum_self av) ∙ sum_zero (field_sum c xv) in
    ap (field_sum c) (product-sum x v (field_product d q) hx hv (product-byte d q hd))
    ∙ sym (sum_assoc c xv (field_product x (field_product d q)))
    ∙ ap (λ (n : ℕ). field_sum n (field_product x (field_product d q))) (sym twice)
    ∙ sum_assoc (field_sum c av) (field_sum xv av) (field_product x (field_product d q))
    ∙ ap (field_sum (field_sum c av)) (sym right)
