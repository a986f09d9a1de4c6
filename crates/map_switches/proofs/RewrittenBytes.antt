-- Bytes of which a run is rewritten, by place.
use Rattle.std.proofs.Common.{◌≡◌, ℕ, ◌+◌, ◌-◌, ◌<◌, ◌≤◌, ◌⊎◌, inl, inr, List, [], ◌++◌, length, replicate, refl, sym, ap, subst, ◌∙◌, arith, length-append}
use Rattle.std.proofs.lemmas.Bool.{cases_lt}
use Rattle.std.proofs.lemmas.List.{length-replicate, get_or_append_left, get_or-append_right, ext_get_or}
use Rattle.write_rule.proofs.NewBytesByPlace.{at, padded_at}

-- a list that reads as another, and is no shorter, is that one with zeros behind
with_zeros : (xs ys : List ℕ) → length ys ≤ length xs → ((i : ℕ) → i < length xs → at xs i ≡ at ys i) → xs ≡ ys ++ replicate (length xs - length ys) 0
with_zeros xs ys long same =
    let whole = length-append ys (replicate (length xs - length ys) 0) in
    let more = length-replicate {A = ℕ} (length xs - length ys) 0 in
    ext_get_or 0 xs (ys ++ replicate (length xs - length ys) 0) (omega (arith, whole, more, long))
    (λ i below. same i below ∙ sym (padded_at ys (length xs - length ys) i))

-- the parts of the old bytes, with a run of the new ones between them, are the new ones with zeros behind: the run reaches the
-- end, and is the last, or it is as long as the old one, and what is new ends within it
pub rewritten : (old fb rb bb new nb : List ℕ) (z s k offset stop : ℕ) → old ++ replicate z 0 ≡ fb ++ (rb ++ bb) → length fb ≡ s → s ≤ offset
    → length nb ≡ k → ((j : ℕ) → j < k → at nb j ≡ at new (s + j))
    → ((i : ℕ) → i < offset → at new i ≡ at old i) → ((i : ℕ) → stop ≤ i → at new i ≡ at old i)
    → length new ≡ stop + (length old - stop)
    → ((bb ≡ []) × (length new ≤ s + k)) ⊎ ((k ≡ length rb) × (stop ≤ s + length rb))
    → (more : ℕ) × (fb ++ (nb ++ bb) ≡ new ++ replicate more 0)
rewritten old fb rb bb new nb z s k offset stop parts fl before nl slice unchanged behind new_long covers =
    (length (fb ++ (nb ++ bb)) - length new, with_zeros (fb ++ (nb ++ bb)) new (long covers) (λ i below. same i below (cases_lt i s)))
  where
    all_long : length (fb ++ (nb ++ bb)) ≡ s + (k + length bb)
    all_long =
        let first = length-append fb (nb ++ bb) in
        let rest = length-append nb bb in
        omega (arith, first, rest, fl, nl)

    old_long : length old + z ≡ s + (length rb + length bb)
    old_long =
        let whole = ap (λ (l : List ℕ). length l) parts in
        let padded = length-append old (replicate z 0) in
        let more = length-replicate {A = ℕ} z 0 in
        let first = length-append fb (rb ++ bb) in
        let rest = length-append rb bb in
        omega (arith, whole, padded, more, first, rest, fl)

    long : ((bb ≡ []) × (length new ≤ s + k)) ⊎ ((k ≡ length rb) × (stop ≤ s + length rb)) → length new ≤ length (fb ++ (nb ++ bb))
    long (inl last) = let whole = all_long in let enough = last.1 in omega (arith, whole, enough)
    long (inr within) =
        let whole = all_long in
        let olds = old_long in
        let k_is = within.0 in
        let stops = within.1 in
        omega (arith, whole, olds, k_is, stops, new_long)

    in_back : (i : ℕ) → i < length (fb ++ (nb ++ bb)) → s + k ≤ i → ((bb ≡ []) × (length new ≤ s + k)) ⊎ ((k ≡ length rb) × (stop ≤ s + length rb)) → at bb (i - s - k) ≡ at new i
    in_back i below past (inl last) =
        let whole = all_long in
        let none = ap (λ (l : List ℕ). length l) last.0 in absurd (omega (arith, whole, none, below, past))
    in_back i below past (inr within) =
        let k_is = within.0 in
        let stops = within.1 in
        ap (λ (n : ℕ). at bb (i - s - n)) k_is
        ∙ sym (get_or-append_right rb bb (length rb) (i - s) 0 refl (omega (arith, past, k_is)))
        ∙ sym (get_or-append_right fb (rb ++ bb) s i 0 fl (omega (arith, past)))
        ∙ sym (ap (λ (l : List ℕ). at l i) parts) ∙ padded_at old z i ∙ sym (behind i (omega (arith, past, k_is, stops)))

    in_run : (i : ℕ) → i < length (fb ++ (nb ++ bb)) → s ≤ i → (i < s + k) ⊎ (s + k ≤ i) → at (nb ++ bb) (i - s) ≡ at new i
    in_run i below past (inl here) =
        let j : i - s < k = omega (arith, past, here) in
        get_or_append_left nb bb 0 (i - s) (subst (λ (n : ℕ). i - s < n) (sym nl) j) ∙ slice (i - s) j ∙ ap (at new) (back i past)
      where
        back : (i : ℕ) → s ≤ i → s + (i - s) ≡ i
        back i past = omega (arith, past)
    in_run i below past (inr beyond) =
        get_or-append_right nb bb k (i - s) 0 nl (omega (arith, beyond)) ∙ in_back i below beyond covers

    same : (i : ℕ) → i < length (fb ++ (nb ++ bb)) → (i < s) ⊎ (s ≤ i) → at (fb ++ (nb ++ bb)) i ≡ at new i
    same i below (inl early) =
        let inside : i < length fb = omega (arith, early, fl) in
        get_or_append_left fb (nb ++ bb) 0 i inside ∙ sym (get_or_append_left fb (rb ++ bb) 0 i inside) ∙ sym (ap (λ (l : List ℕ). at l i) parts)
        ∙ padded_at old z i ∙ sym (unchanged i (omega (arith, early, before)))
    same i below (inr past) = get_or-append_right fb (nb ++ bb) s i 0 fl past ∙ in_run i below past (cases_lt i (s + k))
