-- Codewords that agree on as many units as there are data units are one.
use Rattle.std.proofs.Common.{◌≡◌, ◌≢◌, ℕ, zero, suc, ◌+◌, ◌-◌, ◌<◌, ◌≤◌, List, [], ◌∷◌, length, All, AllPairs, get_or, sym, ap, ◌∙◌, arith}
use Rattle.std.specs.List.{AllByRecursion}
use Rattle.std.proofs.lemmas.List.{ext_get_or}
use Rattle.galois.specs.Polynomial.{polynomial_value}
use Rattle.galois.specs.Codeword.{IsCodeword, IsColumn, unit_at}
use Rattle.galois.proofs.Roots.{same_from_values}

-- each unit is as long
each_length : (len : ℕ) (us : List (List ℕ)) (i : ℕ) → AllByRecursion (λ (u : List ℕ). length u ≡ len) us → i < length us
    → length (unit_at us i) ≡ len
each_length len [] i each within = absurd (omega arith)
each_length len (u ∷ us) zero each within = each.0
each_length len (u ∷ us) (suc i) each within = each_length len us i each.1 (omega arith)

-- units of two lists agree at different positions, as many as told, from this one on
pub record AgreeAt (us vs : List (List ℕ)) (first many : ℕ) : Type 0 where
  pub positions : List ℕ
  pub count : length positions ≡ many
  pub different : AllPairs (λ (i j : ℕ). i ≢ j) positions
  pub from : All (λ (i : ℕ). first ≤ i) positions
  pub below : All (λ (i : ℕ). i < first + length us) positions
  pub same : All (λ (i : ℕ). unit_at us (i - first) ≡ unit_at vs (i - first)) positions

module _ (n m len : ℕ) (us vs : List (List ℕ)) (one : IsCodeword n m us) (two : IsCodeword n m vs) (few : n + m ≤ 256)
    (us_length : AllByRecursion (λ (u : List ℕ). length u ≡ len) us) (vs_length : AllByRecursion (λ (u : List ℕ). length u ≡ len) vs)
    (many : ℕ) (enough : n ≤ many) (agree : AgreeAt us vs 0 many) where
  -- in each column the two have one polynomial
  same_polynomial : (column : ℕ) (cs ds : List ℕ) → IsColumn n us column cs → IsColumn n vs column ds → cs ≡ ds
  same_polynomial column cs ds first second =
      let counted : length us ≡ n + m = one.count in
      let counted_too : length vs ≡ n + m = two.count in
      same_from_values agree.positions cs ds
      (λ i d within. let below : get_or agree.positions i d < 0 + length us = agree.below i d within in omega (arith, below, counted, few))
      first.bytes second.bytes agree.different (first.degree ∙ sym second.degree) (omega (arith, first.degree, agree.count, enough))
      (λ i d within.
      let p : ℕ = get_or agree.positions i d in
      let below : p < 0 + length us = agree.below i d within in
      let here : p - 0 ≡ p = omega arith in
      let same : unit_at us p ≡ unit_at vs p = rw here at (agree.same i d within) in
      sym (first.takes p (omega (arith, below))) ∙ ap (λ (u : List ℕ). get_or u column 0) same
      ∙ second.takes p (omega (arith, below, counted, counted_too)))

  same_unit : (i : ℕ) → i < length us → unit_at us i ≡ unit_at vs i
  same_unit i within =
      let counted : length us ≡ n + m = one.count in
      let counted_too : length vs ≡ n + m = two.count in
      let within_too : i < length vs = omega (arith, within, counted, counted_too) in
      let long : length (unit_at us i) ≡ len = each_length len us i us_length within in
      let long_too : length (unit_at vs i) ≡ len = each_length len vs i vs_length within_too in
      let first : length (unit_at us 0) ≡ len = each_length len us 0 us_length (omega (arith, within)) in
      let first_too : length (unit_at vs 0) ≡ len = each_length len vs 0 vs_length (omega (arith, within_too)) in
      ext_get_or 0 (unit_at us i) (unit_at vs i) (long ∙ sym long_too)
      (λ k inside.
      let a = one.columns k (omega (arith, inside, long, first)) in
      let b = two.columns k (omega (arith, inside, long, first_too)) in
      a.1.takes i within ∙ ap (λ (cs : List ℕ). polynomial_value cs i) (same_polynomial k a.0 b.0 a.1 b.1) ∙ sym (b.1.takes i within_too))

  -- codewords whose units are as long, and that agree at enough positions, are one
  pub same_codeword : us ≡ vs
  same_codeword = ext_get_or [] us vs (one.count ∙ sym two.count) same_unit
