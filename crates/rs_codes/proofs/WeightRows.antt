-- Rows of weights, and the correction units that they give.
use Rattle.std.proofs.Common.{◌≡◌, ℕ, ◌+◌, ◌*◌, ◌<◌, ◌≤◌, List, [], ◌∷◌, ◌++◌, length, sym, ap, ap₂, subst, ◌∙◌, refl, arith, inl, inr, length-append, take, drop, All, length-drop, le_of_eq}
use Rattle.std.proofs.Math.ListN.{get_or-append}
use Rattle.std.proofs.lemmas.Bool.{cases_lt}
use Rattle.std.proofs.lemmas.List.{get_or_push, take-append-drop, take-append-le, take_all}
use Rattle.galois.specs.Field.{IsByte}
use Rattle.galois.specs.Codeword.{IsCodeword, unit_at}
use Rattle.rs_codes.specs.Units.{UnitList, units_in}
use Rattle.rs_codes.specs.Weights.{AreWeights, IsWeightedSum}
use Rattle.rs_codes.specs.Codes.{AreCorrectionWeights}
use Rattle.lane_kernels.proofs.BufferUnits.{length-unit, length-units_in}
use Rattle.rs_codes.proofs.UnitBuffers.{unit_list, units_in-append}
use Rattle.rs_codes.proofs.CorrectionUnits.{AreCorrections, AreData, extends_by_weights, corrections_word, data_of_buffer}

-- row r has the weights of the place n + r
pub record AreRows (n : ℕ) (ps : List ℕ) (rows : UnitList) : Type 0 where
  pub width : rows.unit_length ≡ n
  pub each : (r : ℕ) → r < length rows.units → AreWeights ps (n + r) (unit_at rows.units r)

pub rows_none : (n : ℕ) (ps : List ℕ) (rows : UnitList) → rows ≡ unit_list n [] → AreRows n ps rows
rows_none n ps rows none = record {
  width = ap (λ (v : UnitList). v.unit_length) none;
  each = λ r within. let count = ap (λ (v : UnitList). length v.units) none in absurd (omega arith);
}

pub rows_more : (n r : ℕ) (ps ws : List ℕ) (old new : UnitList) → AreRows n ps old → length old.units ≡ r → AreWeights ps (n + r) ws
    → new ≡ unit_list old.unit_length (old.units ++ ws ∷ []) → AreRows n ps new
rows_more n r ps ws old new before count weights grown = record {
  width = ap (λ (v : UnitList). v.unit_length) grown ∙ before.width;
  each = λ s within.
      let units_are : new.units ≡ old.units ++ ws ∷ [] = ap (λ (v : UnitList). v.units) grown in
      let many : length new.units ≡ length old.units + 1 = ap (λ (l : List (List ℕ)). length l) units_are ∙ length-append old.units (ws ∷ []) in
      elim (cases_lt s r) [
        | inl below ↦ (
            let A : List ℕ → Type 0 = AreWeights ps (n + s) in
            subst A (sym (ap (λ (l : List (List ℕ)). unit_at l s) units_are ∙ get_or-append old.units (ws ∷ []) [] s (omega arith)))
            (before.each s (omega arith)))
        | inr above ↦ (
            let at_end : s ≡ r = omega arith in
            let A : List ℕ → Type 0 = AreWeights ps (n + s) in
            let B : ℕ → Type 0 = λ q. AreWeights ps (n + q) ws in
            subst A (sym (ap (λ (l : List (List ℕ)). unit_at l s) units_are ∙ get_or_push old.units ws [] s (omega arith)))
            (subst B (sym at_end) weights))
      ];
}

-- the sums by the rows are correction units of the data
pub codeword_by_rows : (n m : ℕ) (inputs out : List ℕ) (input rows : UnitList) → AreCorrectionWeights n rows → length input.units ≡ n
    → length rows.units ≡ m → units_in (length input.units) input.unit_length inputs ≡ input.units → AreData n input
    → length out ≡ m * input.unit_length → 1 ≤ n → n + m ≤ 256
    → ((r : ℕ) → r < length rows.units → IsWeightedSum (unit_at rows.units r) (units_in rows.unit_length input.unit_length inputs)
    (unit_at (units_in (length rows.units) input.unit_length out) r))
    → IsCodeword n m (input.units ++ units_in m input.unit_length out)
codeword_by_rows n m inputs out input rows weighted count row_count inputs_are «data» whole some few sums =
    let l = input.unit_length in
    let ps = weighted.positions in
    let made = unit_list l (units_in m l out) in
    let data_are : units_in rows.unit_length l inputs ≡ input.units =
    ap (λ (c : ℕ). units_in c l inputs) (weighted.width ∙ sym count) ∙ inputs_are in
    let corrections : AreCorrections n input made = record {
      same_length = refl;
      each = λ r within.
          let below : r < m = omega (arith, length-units_in m l out) in
          let unit = unit_at (units_in m l out) r in
          let A : List (List ℕ) → Type 0 = λ us. IsWeightedSum (unit_at rows.units r) us unit in
          let B : ℕ → Type 0 = λ c. IsWeightedSum (unit_at rows.units r) (units_in rows.unit_length l inputs) (unit_at (units_in c l out) r) in
          extends_by_weights n (n + r) ps (unit_at rows.units r) unit input weighted.first (weighted.each r (omega arith)) count
          (length-unit m l out r below whole) (subst A data_are (subst B row_count (sums r (omega arith))));
    } in
    corrections_word n m ps input made some few weighted.first «data» corrections (length-units_in m l out)

-- the same, from the lengths and buffers as the code has them
pub codeword_made : (n m len len' : ℕ) (inputs out written : List ℕ) (input rows corrections : UnitList) → len ≡ input.unit_length
    → len' ≡ input.unit_length → written ≡ out → corrections ≡ unit_list len' (units_in m len' written)
    → AreCorrectionWeights n rows → length input.units ≡ n → length rows.units ≡ m
    → units_in (length input.units) input.unit_length inputs ≡ input.units → AreData n input → length out ≡ m * len → 1 ≤ n → n + m ≤ 256
    → ((r : ℕ) → r < length rows.units → IsWeightedSum (unit_at rows.units r) (units_in rows.unit_length len inputs)
    (unit_at (units_in (length rows.units) len out) r))
    → IsCodeword n m (input.units ++ corrections.units)
codeword_made n m len len' inputs out written input rows corrections is_len is_len' is_written is_corrections weighted count row_count
    inputs_are «data» whole some few sums =
    let P : ℕ → Type 0 = λ l. (r : ℕ) → r < length rows.units → IsWeightedSum (unit_at rows.units r) (units_in rows.unit_length l inputs)
    (unit_at (units_in (length rows.units) l out) r) in
    let W : List (List ℕ) → Type 0 = λ us. IsCodeword n m (input.units ++ us) in
    let units_are : corrections.units ≡ units_in m input.unit_length out =
    ap (λ (u : UnitList). u.units) is_corrections ∙ ap₂ (λ (l : ℕ) (b : List ℕ). units_in m l b) is_len' is_written in
    subst W (sym units_are)
    (codeword_by_rows n m inputs out input rows weighted count row_count inputs_are «data» (whole ∙ ap (λ (l : ℕ). m * l) is_len) some few
    (subst P is_len sums))

-- the units of a buffer that holds the data and then the correction units
joined_units : (n m len : ℕ) (inputs out bytes : List ℕ) (input whole : UnitList) → len ≡ input.unit_length
    → whole ≡ unit_list len (units_in (n + m) len bytes) → bytes ≡ inputs ++ out → length input.units ≡ n
    → units_in (length input.units) input.unit_length inputs ≡ input.units
    → length inputs ≡ length input.units * input.unit_length
    → whole.units ≡ input.units ++ units_in m input.unit_length out
joined_units n m len inputs out bytes input whole is_len is_whole is_bytes count inputs_are long =
    ap (λ (u : UnitList). u.units) is_whole
    ∙ ap₂ (λ (l : ℕ) (b : List ℕ). units_in (n + m) l b) is_len is_bytes
    ∙ ap (λ (c : ℕ). units_in (c + m) input.unit_length (inputs ++ out)) (sym count)
    ∙ units_in-append (length input.units) m input.unit_length inputs out long
    ∙ ap (λ (us : List (List ℕ)). us ++ units_in m input.unit_length out) inputs_are

-- a buffer whose front is the data and whose rest has the sums by the rows is a codeword of the data
pub codeword_joined : (n m len len' : ℕ) (inputs new bytes : List ℕ) (input rows whole : UnitList) → len ≡ input.unit_length
    → len' ≡ input.unit_length → bytes ≡ new → take (length inputs) new ≡ inputs → whole ≡ unit_list len' (units_in (n + m) len' bytes)
    → AreCorrectionWeights n rows → length input.units ≡ n → length rows.units ≡ m
    → units_in (length input.units) input.unit_length inputs ≡ input.units → length inputs ≡ length input.units * input.unit_length
    → All IsByte inputs → length new ≡ length inputs + m * len → 1 ≤ n → n + m ≤ 256
    → ((r : ℕ) → r < length rows.units → IsWeightedSum (unit_at rows.units r) (units_in rows.unit_length len inputs)
    (unit_at (units_in (length rows.units) len (drop (length inputs) new)) r))
    → IsCodeword n m whole.units × (take n whole.units ≡ input.units)
codeword_joined n m len len' inputs new bytes input rows whole is_len is_len' is_new front is_whole weighted count row_count inputs_are long
    is_bytes new_long some few sums =
    let out = drop (length inputs) new in
    let split : bytes ≡ inputs ++ out = is_new ∙ sym (take-append-drop (length inputs) new) ∙ ap (λ (l : List ℕ). l ++ out) front in
    let units_are = joined_units n m len' inputs out bytes input whole is_len' is_whole split count inputs_are long in
    let made = unit_list input.unit_length (units_in m input.unit_length out) in
    let word = codeword_made n m len input.unit_length inputs out out input rows made is_len refl refl refl weighted count row_count
    inputs_are (data_of_buffer n inputs input count inputs_are long is_bytes) (omega (arith, length-drop (length inputs) new)) some few sums in (
      subst (IsCodeword n m) (sym units_are) word,
      ap (take n) units_are ∙ take-append-le n input.units (units_in m input.unit_length out) (le_of_eq (sym count))
          ∙ take_all n input.units (le_of_eq count),
    )
