-- The loops that move weights.
use Rattle.std.proofs.Common.{◌≡◌, ◌≢◌, ℕ, ◌+◌, ◌<◌, List, [], ◌∷◌, ◌++◌, length, take, drop, set, All, get_or, sym, ap, subst, ◌∙◌, arith, get_or-set_other, get_or-set_same, below_more, length-take, append-nil}
use Rattle.std.proofs.lemmas.List.{take_more, take_more_set, get_or-take, get_or_default, take_all, drop_all}
use Rattle.std.proofs.lemmas.List.Elements.{All-take, All-from_get_or}
use Rattle.galois.specs.Field.{IsByte, field_sum, field_product}
use Rattle.galois.proofs.FieldSums.{sum_assoc}
use Rattle.galois.proofs.FieldProducts.{product-one}
use Rattle.galois.proofs.Inverses.{difference_not_zero}
use Rattle.galois.proofs.PolynomialValues.{product_left_comm}
use Rattle.rs_codes.specs.Weights.{byte_total, AreWeights, AreDifferent}
use Rattle.rs_codes.proofs.LagrangeWeights.{byte_total-push, weights_none, weights_more}

-- what times d is x, where i is the inverse of d
pub product_over : (d x i : ℕ) → IsByte d → IsByte x → field_product d i ≡ 1 → field_product d (field_product x i) ≡ x
product_over d x i hd hx one = product_left_comm d x i hd hx ∙ ap (field_product x) one ∙ product-one x hx

pub difference_positive : (a b : ℕ) → a ≢ b → 0 < field_sum a b
difference_positive a b other =
    let some = difference_not_zero a b other in
    omega arith

-- what holds of each entry so far, and of the one that is written
pub set_below : (P : ℕ → ℕ → Type 0) (xs : List ℕ) (i v : ℕ) → i < length xs → ((k : ℕ) → k < i → P k (get_or xs k 0)) → P i v
    → (k : ℕ) → k < i + 1 → P k (get_or (set xs i v) k 0)
set_below P xs i v within below here =
    below_more (λ k. P k (get_or (set xs i v) k 0)) i
    (λ k h. let ne : k ≢ i = omega arith in subst (P k) (sym (get_or-set_other xs i k v 0 ne)) (below k h))
    (subst (P i) (sym (get_or-set_same xs i v 0 within)) here)

pub total_step : (xs : List ℕ) (i v total new : ℕ) → i < length xs → total ≡ field_sum 1 (byte_total (take i xs))
    → new ≡ field_sum total v → new ≡ field_sum 1 (byte_total (take (i + 1) (set xs i v)))
total_step xs i v total new within was is_new =
    is_new ∙ ap (λ (n : ℕ). field_sum n v) was ∙ sum_assoc 1 (byte_total (take i xs)) v
    ∙ ap (field_sum 1) (sym (ap byte_total (take_more_set xs i v within) ∙ byte_total-push (take i xs) v))

-- the positions before one of different positions are none of it
pub different_before : (ps : List ℕ) (i : ℕ) → AreDifferent ps → i < length ps → All (λ p. p ≢ get_or ps i 0) (take i ps)
different_before ps i different within k e inside =
    let below : k < i = omega (arith, length-take i ps) in
    let A : ℕ → Type 0 = λ q. q ≢ get_or ps i 0 in
    let B : ℕ → Type 0 = λ q. get_or ps k e ≢ q in
    subst A (sym (get_or-take i ps k e below)) (subst B (get_or_default ps i e 0 within) (different k i e below within))

pub weights_start : (want : ℕ) (ws : List ℕ) → ws ≡ [] → AreWeights [] want ws
weights_start want ws none = subst (AreWeights [] want) (sym none) (weights_none want)

-- a list that was written whole over another of its length
pub written_whole : (n : ℕ) (new old : List ℕ) → length old ≡ n → length new ≡ n → take n (new ++ drop (length new) old) ≡ new
written_whole n new old is_old is_new =
    ap (λ (l : List ℕ). take n (new ++ l)) (drop_all (length new) old (omega arith)) ∙ ap (take n) (append-nil new)
    ∙ take_all n new (omega arith)

-- one position more, as the loop over the positions leaves its list of weights
pub weights_step : (ps : List ℕ) (i want last n : ℕ) (old view new pushed : List ℕ) → AreWeights (take i ps) want old
    → All IsByte ps → IsByte want → i < length ps → view ≡ old → length view ≡ n → length new ≡ length view
    → ((k : ℕ) → k < length new → field_product (field_sum (get_or (take i ps) k 0) (get_or ps i 0)) (get_or new k 0) ≡ field_product (field_sum want (get_or ps i 0)) (get_or view k 0))
    → ((k : ℕ) → k < length new → IsByte (get_or new k 0)) → last ≡ field_sum 1 (byte_total new)
    → pushed ≡ take n (new ++ drop (length new) old) ++ last ∷ [] → AreWeights (take (i + 1) ps) want pushed
weights_step ps i want last n old view new pushed weights hps hwant within is_view counted same moved bytes total is_pushed =
    let kept : length old ≡ n = sym (ap (λ (l : List ℕ). length l) is_view) ∙ counted in
    let grown : AreWeights (take i ps ++ get_or ps i 0 ∷ []) want (new ++ last ∷ []) =
    weights_more (take i ps) old new (get_or ps i 0) want last weights (All-take IsByte i ps hps) (hps i 0 within) hwant
    (same ∙ counted ∙ sym kept) (All-from_get_or IsByte new 0 bytes)
    (λ k inside. moved k inside ∙ ap (λ (l : List ℕ). field_product (field_sum want (get_or ps i 0)) (get_or l k 0)) is_view)
    total in
    let A : List ℕ → Type 0 = λ l. AreWeights l want pushed in
    subst A (sym (take_more ps i 0 within))
    (subst (AreWeights (take i ps ++ get_or ps i 0 ∷ []) want)
    (sym (is_pushed ∙ ap (λ (l : List ℕ). l ++ last ∷ []) (written_whole n new old kept (same ∙ counted)))) grown)
