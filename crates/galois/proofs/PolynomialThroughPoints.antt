-- One more point: a polynomial through the points so far, and one that is zero at them alone.
use Rattle.std.proofs.Common.{◌≡◌, ◌≢◌, ℕ, zero, suc, ◌+◌, ◌<◌, ◌≤◌, List, [], ◌∷◌, ◌++◌, length, All, take, get_or, sym, ap, subst, ◌∙◌, refl, arith, add-one, inl, inr}
use Rattle.std.proofs.lemmas.List.{ext_get_or, length-append, get_or_push, get_or_past, get_or-take, get_or_default, take_more, length-take}
use Rattle.std.proofs.Math.ListN.{get_or-append}
use Rattle.std.proofs.lemmas.Bool.{cases_lt}
use Rattle.std.proofs.lemmas.List.Elements.{All-head, All-tail, All-cons, All-nil, All-push}
use Rattle.galois.specs.declared.interpolation.Point8.{Point8}
use Rattle.galois.specs.Field.{IsByte, field_sum, field_product}
use Rattle.galois.specs.Polynomial.{polynomial_value, added, linear_times}
use Rattle.galois.specs.Points.{AreApart, TakesAll, TakesPoint}
use Rattle.galois.proofs.FieldSums.{sum_comm, sum_zero, sum_self, sum_twice, sum-byte}
use Rattle.galois.proofs.FieldProducts.{product_comm, product_assoc, product-one, product-zero, zero-product}
use Rattle.galois.proofs.Inverses.{zero_factor, difference_not_zero}
use Rattle.galois.proofs.PolynomialValues.{value-nil, value-cons, value-byte, added-bytes, length-added, value-added}
use Rattle.galois.proofs.Interpolants.{linear_times-bytes, length-linear_times, value-linear_times}

-- a point is at a byte
abbrev pub IsAtByte : Point8 → Type 0
IsAtByte p = IsByte p.x

-- the first list holds the coefficients of a polynomial through the points, and the second those of one that is zero
-- at them alone
pub record IsThrough (points : List Point8) (coefficients roots : List ℕ) : Type 0 where
  pub places : All IsAtByte points
  pub count : length coefficients ≡ length points
  pub bytes : All IsByte coefficients
  pub count_of_roots : length roots ≡ suc (length points)
  pub root_bytes : All IsByte roots
  pub taken : TakesAll coefficients points
  pub rooted : All (λ p. polynomial_value roots p.x ≡ 0) points
  pub apart : (x : ℕ) → IsByte x → All (λ p. x ≢ p.x) points → polynomial_value roots x ≢ 0

value-constant_one : (x : ℕ) → IsByte x → polynomial_value (1 ∷ []) x ≡ 1
value-constant_one x hx =
    value-cons 1 [] x (omega arith) (All-nil IsByte) hx ∙ ap (field_sum 1) (ap (field_product x) (value-nil x) ∙ product-zero x hx)

pub through_none : IsThrough [] [] (1 ∷ [])
through_none = record {
  places = All-nil IsAtByte;
  count = refl;
  bytes = All-nil IsByte;
  count_of_roots = refl;
  root_bytes = All-cons IsByte 1 [] (omega arith) (All-nil IsByte);
  taken = λ i d within. absurd (omega arith);
  rooted = λ i d within. absurd (omega arith);
  apart = λ x hx others none.
      let is_one = value-constant_one x hx in
      omega arith;
}

-- a zero on top changes no value
pub value-push_zero : (cs : List ℕ) (x : ℕ) → All IsByte cs → IsByte x → polynomial_value (cs ++ 0 ∷ []) x ≡ polynomial_value cs x
value-push_zero [] x hcs hx =
    value-cons 0 [] x (omega arith) (All-nil IsByte) hx ∙ ap (field_product x) (value-nil x) ∙ product-zero x hx ∙ sym (value-nil x)
value-push_zero (c ∷ cs) x hcs hx =
    let hc = All-head IsByte c cs hcs in
    let rest = All-tail IsByte c cs hcs in
    value-cons c (cs ++ 0 ∷ []) x hc (All-push IsByte cs 0 rest (omega arith)) hx
    ∙ ap (λ (n : ℕ). field_sum c (field_product x n)) (value-push_zero cs x rest hx)
    ∙ sym (value-cons c cs x hc rest hx)

-- each entry of a sum with a multiple
added-at : (s : ℕ) (ps qs : List ℕ) (k : ℕ) → length ps ≡ length qs → k < length ps
    → get_or (added s ps qs) k 0 ≡ field_sum (get_or ps k 0) (field_product s (get_or qs k 0))
added-at s [] qs k same within = absurd (omega arith)
added-at s (p ∷ ps) [] k same within = absurd (omega arith)
added-at s (p ∷ ps) (q ∷ qs) zero same within = refl
added-at s (p ∷ ps) (q ∷ qs) (suc k) same within = added-at s ps qs k (omega arith) (omega arith)

pub added_by_entry : (s : ℕ) (new ps qs : List ℕ) → length new ≡ length ps → length ps ≡ length qs
    → ((k : ℕ) → k < length new → get_or new k 0 ≡ field_sum (get_or ps k 0) (field_product s (get_or qs k 0)))
    → new ≡ added s ps qs
added_by_entry s new ps qs kept same entry =
    ext_get_or 0 new (added s ps qs) (kept ∙ sym (length-added s ps qs))
    (λ k within. entry k within ∙ sym (added-at s ps qs k same (omega arith)))

-- each entry of a product with x + a
linear_times-at : (a c : ℕ) (qs : List ℕ) (k : ℕ) → IsByte a → k ≤ length qs
    → get_or (linear_times a c qs) k 0 ≡ field_sum (get_or (c ∷ qs) k 0) (field_product a (get_or qs k 0))
linear_times-at a c [] zero ha within = sym (ap (field_sum c) (product-zero a ha) ∙ sum_zero c)
linear_times-at a c [] (suc k) ha within = absurd (omega arith)
linear_times-at a c (q ∷ qs) zero ha within = refl
linear_times-at a c (q ∷ qs) (suc k) ha within = linear_times-at a q qs k ha (omega arith)

pub linear_times_by_entry : (a : ℕ) (lower qs : List ℕ) (top : ℕ) → IsByte a → length lower ≡ length qs
    → ((k : ℕ) → k < length lower → get_or lower k 0 ≡ field_sum (get_or (0 ∷ qs) k 0) (field_product a (get_or qs k 0)))
    → top ≡ get_or (0 ∷ qs) (length qs) 0 → lower ++ top ∷ [] ≡ linear_times a 0 qs
linear_times_by_entry a lower qs top ha same entry last =
    ext_get_or 0 (lower ++ top ∷ []) (linear_times a 0 qs)
    (length-append lower (top ∷ []) ∙ add-one (length lower) ∙ ap suc same ∙ sym (length-linear_times a 0 qs))
    (λ k within. elim (cases_lt k (length lower)) [
      | inl below ↦
          get_or-append lower (top ∷ []) 0 k below ∙ entry k below ∙ sym (linear_times-at a 0 qs k ha (omega arith))
      | inr above ↦ (
          let widths = length-append lower (top ∷ []) in
          let at_end : length lower ≡ k = omega arith in
          let end : length qs ≡ k = sym same ∙ at_end in
          get_or_push lower top 0 k at_end ∙ last ∙ ap (λ (n : ℕ). get_or (0 ∷ qs) n 0) end
          ∙ sym (linear_times-at a 0 qs k ha (omega arith)
          ∙ ap (λ (n : ℕ). field_sum (get_or (0 ∷ qs) k 0) (field_product a n)) (get_or_past qs k 0 (omega arith))
          ∙ ap (field_sum (get_or (0 ∷ qs) k 0)) (product-zero a ha) ∙ sum_zero (get_or (0 ∷ qs) k 0)))
    ])

-- a multiple of the polynomial of the roots that makes up for what is missing at a point, and a root more
takes_point : (p : Point8) (cs rs : List ℕ) (s : ℕ) → IsByte p.x → IsByte p.y → All IsByte cs → All IsByte rs → IsByte s
    → length rs ≡ length cs + 1
    → field_product s (polynomial_value rs p.x) ≡ field_sum p.y (polynomial_value cs p.x)
    → TakesPoint p cs rs (added s (cs ++ 0 ∷ []) rs) (linear_times p.x 0 rs)
takes_point p cs rs s hx hy hcs hrs hs wide scale =
    let wider = cs ++ 0 ∷ [] in
    let hwider = All-push IsByte cs 0 hcs (omega arith) in
    let same : length wider ≡ length rs = length-append cs (0 ∷ []) ∙ sym wide in
    let value_of_new : (x : ℕ) → IsByte x → polynomial_value (added s wider rs) x ≡ field_sum (polynomial_value cs x) (field_product s (polynomial_value rs x)) = λ x hx.
    value-added s wider rs x hs hwider hrs hx same
    ∙ ap (λ (n : ℕ). field_sum n (field_product s (polynomial_value rs x))) (value-push_zero cs x hcs hx) in
    record {
      place = hx;
      bytes = added-bytes s wider rs hs hwider;
      root_bytes = linear_times-bytes p.x 0 rs hx (omega arith) hrs;
      count = length-added s wider rs ∙ length-append cs (0 ∷ []);
      count_of_roots = length-linear_times p.x 0 rs ∙ sym (add-one (length rs));
      taken =
          value_of_new p.x hx ∙ ap (field_sum (polynomial_value cs p.x)) scale
          ∙ sum_comm (polynomial_value cs p.x) (field_sum p.y (polynomial_value cs p.x)) ∙ sum_twice p.y (polynomial_value cs p.x);
      kept = λ x hx root.
          value_of_new x hx ∙ ap (field_sum (polynomial_value cs x)) (ap (field_product s) root ∙ product-zero s hs)
          ∙ sum_zero (polynomial_value cs x);
      rooted = λ x hx'. value-linear_times p.x 0 rs x hx (omega arith) hrs hx';
    }

pub takes_point_as : (p : Point8) (cs rs new new_roots : List ℕ) (s : ℕ) → IsByte p.x → IsByte p.y → All IsByte cs → All IsByte rs
    → IsByte s → length rs ≡ length cs + 1
    → field_product s (polynomial_value rs p.x) ≡ field_sum p.y (polynomial_value cs p.x)
    → new ≡ added s (cs ++ 0 ∷ []) rs → new_roots ≡ linear_times p.x 0 rs → TakesPoint p cs rs new new_roots
takes_point_as p cs rs new new_roots s hx hy hcs hrs hs wide scale is_new is_product =
    let A : List ℕ → Type 0 = λ l. TakesPoint p cs rs l new_roots in
    let B : List ℕ → Type 0 = λ l. TakesPoint p cs rs (added s (cs ++ 0 ∷ []) rs) l in
    subst A (sym is_new) (subst B (sym is_product) (takes_point p cs rs s hx hy hcs hrs hs wide scale))

-- what is missing over r, times r again
pub scale_by_inverse : (missing i r : ℕ) → IsByte missing → IsByte i → IsByte r → field_product r i ≡ 1
    → field_product (field_product missing i) r ≡ missing
scale_by_inverse missing i r hm hi hr inverse_of =
    product_assoc missing i r hm hi ∙ ap (field_product missing) (product_comm i r hi hr ∙ inverse_of) ∙ product-one missing hm

-- one more point
pub through_more : (points : List Point8) (p : Point8) (cs rs new new_roots : List ℕ) → IsThrough points cs rs
    → All (λ q. q.x ≢ p.x) points → TakesPoint p cs rs new new_roots → IsThrough (points ++ p ∷ []) new new_roots
through_more points p cs rs new new_roots through different step =
    let hx = step.place in
    let widths = length-append points (p ∷ []) in
    let P : Point8 → Type 0 = λ q. polynomial_value new q.x ≡ q.y in
    let Q : Point8 → Type 0 = λ q. polynomial_value new_roots q.x ≡ 0 in
    record {
      places = All-push IsAtByte points p through.places hx;
      bytes = step.bytes;
      root_bytes = step.root_bytes;
      count = omega (arith, step.count, through.count);
      count_of_roots = omega (arith, step.count_of_roots, through.count_of_roots);
      taken = All-push P points p
          (λ k d within. step.kept (get_or points k d).x (through.places k d within) (through.rooted k d within) ∙ through.taken k d within)
          step.taken;
      rooted = All-push Q points p
          (λ k d within.
          let q = get_or points k d in
          let hq : IsByte q.x = through.places k d within in
          step.rooted q.x hq ∙ ap (field_product (field_sum q.x p.x)) (through.rooted k d within)
          ∙ product-zero (field_sum q.x p.x) (sum-byte q.x p.x hq hx))
          (step.rooted p.x hx ∙ ap (λ (n : ℕ). field_product n (polynomial_value rs p.x)) (sum_self p.x)
          ∙ zero-product (polynomial_value rs p.x));
      apart = λ x hx' others none.
          let A : Point8 → Type 0 = λ q. x ≢ q.x in
          let old : All A points = λ k d within.
          subst A (get_or-append points (p ∷ []) d k within) (others k d (omega arith)) in
          let other : x ≢ p.x = subst A (get_or_push points p p (length points) refl) (others (length points) p (omega arith)) in
          through.apart x hx' old
          (zero_factor (field_sum x p.x) (polynomial_value rs x) (sum-byte x p.x hx' hx) (value-byte rs x through.root_bytes hx')
          (difference_not_zero x p.x other) (sym (step.rooted x hx') ∙ none));
    }

pub through_start : (cs rs : List ℕ) → cs ≡ [] → rs ≡ 1 ∷ [] → IsThrough [] cs rs
through_start cs rs none one =
    let A : List ℕ → Type 0 = λ l. IsThrough [] l rs in
    let B : List ℕ → Type 0 = λ l. IsThrough [] [] l in
    subst A (sym none) (subst B (sym one) through_none)

-- points that differ, up to one of them
pub different_before : (points : List Point8) (i : ℕ) (d : Point8) → AreApart points → i < length points
    → All (λ q. q.x ≢ (get_or points i d).x) (take i points)
different_before points i d apart within k e inside =
    let below : k < i = omega (arith, length-take i points) in
    let A : Point8 → Type 0 = λ q. q.x ≢ (get_or points i d).x in
    subst A (sym (get_or-take i points k e below)) (different k below e)
  where
    different : (k : ℕ) → k < i → (e : Point8) → (get_or points k e).x ≢ (get_or points i d).x
    different k below e =
        let A : Point8 → Type 0 = λ q. (get_or points k e).x ≢ q.x in
        subst A (get_or_default points i e d within) (apart k i e below within)

-- the step of the loop over the points
pub through_step : (points : List Point8) (i : ℕ) (d : Point8) (cs rs new new_roots : List ℕ) → AreApart points
    → i < length points → IsThrough (take i points) cs rs
    → TakesPoint (get_or points i d) cs rs new new_roots → IsThrough (take (i + 1) points) new new_roots
through_step points i d cs rs new new_roots apart within through step =
    let A : List Point8 → Type 0 = λ l. IsThrough l new new_roots in
    subst A (sym (take_more points i d within))
    (through_more (take i points) (get_or points i d) cs rs new new_roots through (different_before points i d apart within) step)

-- the polynomial of the roots is not zero at the next point
pub apart_at : (points : List Point8) (i : ℕ) (d : Point8) (cs rs : List ℕ) → AreApart points → i < length points
    → IsThrough (take i points) cs rs → IsByte (get_or points i d).x → polynomial_value rs (get_or points i d).x ≢ 0
apart_at points i d cs rs apart within through hx =
    through.apart (get_or points i d).x hx
    (λ k e inside same. different_before points i d apart within k e inside (sym same))
