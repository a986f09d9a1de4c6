-- Correction units, column by column, make a codeword of the data; and units at hand give the data of theirs.
use Rattle.std.proofs.Common.{◌≡◌, ℕ, zero, suc, ◌+◌, ◌-◌, ◌*◌, ◌<◌, ◌≤◌, List, [], ◌∷◌, ◌++◌, length, map, take, All, get_or, sym, ap, ap₂, subst, ◌∙◌, refl, arith, inl, inr, length-append, drop}
use Rattle.std.proofs.Math.ListN.{get_or-append}
use Rattle.std.proofs.lemmas.Bool.{cases_lt}
use Rattle.std.proofs.lemmas.List.{ext_get_or, take_more, get_or_push, get_or_default, get_or-append-add}
use Rattle.std.proofs.lemmas.List.Elements.{All-from_get_or}
use Rattle.galois.specs.Field.{IsByte}
use Rattle.galois.specs.Polynomial.{polynomial_value}
use Rattle.galois.specs.Codeword.{IsCodeword, IsColumn, unit_at}
use Rattle.galois.proofs.Interpolants.{interpolated, interpolated-bytes, length-interpolated, interpolated-takes}
use Rattle.rs_codes.specs.Units.{UnitList, HeldUnits, units_in, column_of}
use Rattle.rs_codes.specs.Weights.{weighted_sum, AreWeights, AreDifferent, IsWeightedSum}
use Rattle.rs_codes.specs.Codes.{AddsSum, AreFirst, AreUnitsOf, GivesUnit}
use Rattle.rs_codes.proofs.WeightsAtPositions.{written_whole}
use Rattle.lane_kernels.proofs.BufferUnits.{length-unit}
use Rattle.rs_codes.proofs.UnitBuffers.{units_in-bytes}

-- in every column the unit is the value, at the wanted place, of each polynomial with n coefficients that takes the data
pub record Extends (n : ℕ) (input : UnitList) (want : ℕ) (unit : List ℕ) : Type 0 where
  pub fits : length unit ≡ input.unit_length
  pub takes : (k : ℕ) → k < length unit → (cs : List ℕ) → All IsByte cs → length cs ≡ n
      → ((i : ℕ) → i < n → get_or (unit_at input.units i) k 0 ≡ polynomial_value cs i)
      → get_or unit k 0 ≡ polynomial_value cs want

-- each correction unit extends the data
pub record AreCorrections (n : ℕ) (input corrections : UnitList) : Type 0 where
  pub same_length : corrections.unit_length ≡ input.unit_length
  pub each : (r : ℕ) → r < length corrections.units → Extends n input (n + r) (unit_at corrections.units r)

pub column_at : (k : ℕ) (units : List (List ℕ)) (i : ℕ) → i < length units → get_or (column_of k units) i 0 ≡ get_or (unit_at units i) k 0
column_at k [] i within = absurd (omega arith)
column_at k (u ∷ units) zero within = refl
column_at k (u ∷ units) (suc i) within = column_at k units i (omega arith)

pub length-column_of : (k : ℕ) (units : List (List ℕ)) → length (column_of k units) ≡ length units
length-column_of k [] = refl
length-column_of k (u ∷ units) = ap suc (length-column_of k units)

pub map_at : (f : ℕ → ℕ) (xs : List ℕ) (i : ℕ) → i < length xs → get_or (map f xs) i 0 ≡ f (get_or xs i 0)
map_at f [] i within = absurd (omega arith)
map_at f (x ∷ xs) zero within = refl
map_at f (x ∷ xs) (suc i) within = map_at f xs i (omega arith)

pub length-map_of : (f : ℕ → ℕ) (xs : List ℕ) → length (map f xs) ≡ length xs
length-map_of f [] = refl
length-map_of f (x ∷ xs) = ap suc (length-map_of f xs)

pub units_at : (word : List (List ℕ)) (ps : List ℕ) (i : ℕ) → i < length ps → unit_at (map (unit_at word) ps) i ≡ unit_at word (get_or ps i 0)
units_at word [] i within = absurd (omega arith)
units_at word (p ∷ ps) zero within = refl
units_at word (p ∷ ps) (suc i) within = units_at word ps i (omega arith)

pub first_none : (ps : List ℕ) → ps ≡ [] → AreFirst 0 ps
first_none ps none = record {
  count = ap (λ (l : List ℕ). length l) none;
  each = λ i below. absurd (omega arith);
}

pub first_more : (n : ℕ) (ps new : List ℕ) → AreFirst n ps → new ≡ ps ++ n ∷ [] → AreFirst (n + 1) new
first_more n ps new first is_new = record {
  count = ap (λ (l : List ℕ). length l) is_new ∙ length-append ps (n ∷ []) ∙ ap (λ (m : ℕ). m + 1) first.count;
  each = λ i below.
      ap (λ (l : List ℕ). get_or l i 0) is_new
      ∙ elim (cases_lt i n) as (λ _. get_or (ps ++ n ∷ []) i 0 ≡ i) [
        | inl inside ↦ get_or-append ps (n ∷ []) 0 i (omega (arith, first.count)) ∙ first.each i inside
        | inr past ↦ (let at_end : n ≡ i = omega arith in get_or_push ps n 0 i (first.count ∙ at_end) ∙ at_end)
      ];
}

pub first_different : (n : ℕ) (ps : List ℕ) → AreFirst n ps → AreDifferent ps
first_different n ps first i j d less within = λ same.
    let at_i = get_or_default ps i d 0 (omega arith) ∙ first.each i (omega (arith, first.count)) in
    let at_j = get_or_default ps j d 0 within ∙ first.each j (omega (arith, first.count)) in
    let equal : i ≡ j = sym at_i ∙ same ∙ at_j in
    omega arith

pub first_bytes : (n : ℕ) (ps : List ℕ) → AreFirst n ps → n ≤ 256 → All IsByte ps
first_bytes n ps first few =
    All-from_get_or IsByte ps 0
    (λ i within. subst IsByte (sym (first.each i (omega (arith, first.count)))) (omega (arith, first.count)))

-- a sum by the weights of the wanted place extends the data
pub extends_by_weights : (n want : ℕ) (ps ws unit : List ℕ) (input : UnitList) → AreFirst n ps → AreWeights ps want ws
    → length input.units ≡ n → length unit ≡ input.unit_length → IsWeightedSum ws input.units unit → Extends n input want unit
extends_by_weights n want ps ws unit input first weights count fits sum = record {
  fits = fits;
  takes = λ k inside cs hcs degree agree.
      let columns : column_of k input.units ≡ map (polynomial_value cs) ps =
      ext_get_or 0 (column_of k input.units) (map (polynomial_value cs) ps)
      (length-column_of k input.units ∙ count ∙ sym (length-map_of (polynomial_value cs) ps ∙ first.count))
      (λ i within.
      let below : i < n = omega (arith, length-column_of k input.units, count) in
      column_at k input.units i (omega arith) ∙ agree i below
      ∙ ap (polynomial_value cs) (sym (first.each i below)) ∙ sym (map_at (polynomial_value cs) ps i (omega (arith, first.count)))) in
      sum.column k inside ∙ ap (weighted_sum ws) columns ∙ sym (weights.exact cs hcs (degree ∙ sym first.count));
}

-- byte lists of the length of the data
pub record AreData (n : ℕ) (input : UnitList) : Type 0 where
  pub count : length input.units ≡ n
  pub fit : (i : ℕ) → i < n → length (unit_at input.units i) ≡ input.unit_length
  pub bytes : All (λ unit. All IsByte unit) input.units

-- the data that a buffer of bytes holds
pub data_of_buffer : (n : ℕ) (buffer : List ℕ) (input : UnitList) → length input.units ≡ n
    → units_in (length input.units) input.unit_length buffer ≡ input.units
    → length buffer ≡ length input.units * input.unit_length → All IsByte buffer → AreData n input
data_of_buffer n buffer input count is_units whole bytes = record {
  count = count;
  fit = λ i below.
      ap (λ (l : List (List ℕ)). length (unit_at l i)) (sym is_units)
      ∙ length-unit (length input.units) input.unit_length buffer i (omega arith) whole;
  bytes =
      let A : List (List ℕ) → Type 0 = All (λ unit. All IsByte unit) in
      subst A is_units (units_in-bytes (length input.units) input.unit_length buffer bytes);
}

column-bytes : (k : ℕ) (units : List (List ℕ)) → All (λ unit. All IsByte unit) units → ((i : ℕ) → i < length units → k < length (unit_at units i))
    → All IsByte (column_of k units)
column-bytes k units bytes within = All-from_get_or IsByte (column_of k units) 0
    (λ i inside.
    let below : i < length units = omega (arith, length-column_of k units) in
    subst IsByte (sym (column_at k units i below)) (bytes i [] below k 0 (within i below)))

-- the data and the correction units in one column
column_of_both : (n m k : ℕ) (ps : List ℕ) (input corrections : UnitList) → AreFirst n ps → n + m ≤ 256 → AreData n input
    → AreCorrections n input corrections → length corrections.units ≡ m → k < input.unit_length
    → IsColumn n (input.units ++ corrections.units) k (interpolated ps (column_of k input.units))
column_of_both n m k ps input corrections first few «data» extending count inside =
    let ys = column_of k input.units in
    let hps = first_bytes n ps first (omega arith) in
    let hys = column-bytes k input.units «data».bytes
    (λ i below. subst (λ (l : ℕ). k < l) (sym («data».fit i (omega (arith, «data».count)))) inside) in
    let counts : length ps ≡ length ys = first.count ∙ sym («data».count) ∙ sym (length-column_of k input.units) in
    let cs = interpolated ps ys in
    let hcs = interpolated-bytes ps ys hps hys in
    let degree : length cs ≡ n = length-interpolated ps ys counts ∙ first.count in
    let agree : (i : ℕ) → i < n → get_or (unit_at input.units i) k 0 ≡ polynomial_value cs i = λ i below.
    sym (column_at k input.units i (omega (arith, «data».count)))
    ∙ sym (interpolated-takes ps ys hps hys (first_different n ps first) counts i (omega (arith, first.count)))
    ∙ ap (polynomial_value cs) (first.each i below) in
    record {
      degree = degree;
      bytes = hcs;
      takes = λ i within.
          let both = input.units ++ corrections.units in
          let widths = length-append input.units corrections.units in
          elim (cases_lt i n) [
            | inl below ↦
                ap (λ (u : List ℕ). get_or u k 0) (get_or-append input.units corrections.units [] i (omega (arith, «data».count)))
                ∙ agree i below
            | inr above ↦ (
                let r = i - n in
                let place : length input.units + r ≡ i = omega (arith, «data».count) in
                let there : r < length corrections.units = omega (arith, «data».count) in
                let extends = extending.each r there in
                ap (λ (q : ℕ). get_or (unit_at both q) k 0) (sym place)
                ∙ ap (λ (u : List ℕ). get_or u k 0) (get_or-append-add input.units corrections.units r [])
                ∙ extends.takes k (subst (λ (l : ℕ). k < l) (sym extends.fits) inside) cs hcs degree agree
                ∙ ap (polynomial_value cs) (omega arith))
          ];
    }

-- the data and its correction units are a codeword
pub corrections_word : (n m : ℕ) (ps : List ℕ) (input corrections : UnitList) → 1 ≤ n → n + m ≤ 256 → AreFirst n ps → AreData n input
    → AreCorrections n input corrections → length corrections.units ≡ m → IsCodeword n m (input.units ++ corrections.units)
corrections_word n m ps input corrections some few first «data» extending count =
    let both = input.units ++ corrections.units in
    let widths = length-append input.units corrections.units in
    let fit : (i : ℕ) → i < length both → length (unit_at both i) ≡ input.unit_length = λ i within.
    elim (cases_lt i n) [
      | inl below ↦
          ap (λ (u : List ℕ). length u) (get_or-append input.units corrections.units [] i (omega (arith, «data».count)))
          ∙ «data».fit i below
      | inr above ↦ (
          let r = i - n in
          let place : length input.units + r ≡ i = omega (arith, «data».count) in
          let there : r < length corrections.units = omega (arith, «data».count) in
          ap (λ (q : ℕ). length (unit_at both q)) (sym place)
          ∙ ap (λ (u : List ℕ). length u) (get_or-append-add input.units corrections.units r [])
          ∙ (extending.each r there).fits)
    ] in
    let first_fits = fit 0 (omega (arith, «data».count)) in
    record {
      count = widths ∙ ap₂ (λ (a b : ℕ). a + b) («data».count) count;
      equal = All-from_get_or (λ (u : List ℕ). length u ≡ length (unit_at both 0)) both [] (λ i within. fit i within ∙ sym first_fits);
      columns = λ k inside. (
        interpolated ps (column_of k input.units),
        column_of_both n m k ps input corrections first few «data» extending count (subst (λ (l : ℕ). k < l) first_fits inside),
      );
    }

-- the units at hand are as long as those of their codeword
held_length : (n m want : ℕ) (word : List (List ℕ)) (inputs : List ℕ) (held : HeldUnits) → AreUnitsOf n m word held → 1 ≤ n
    → length held.positions ≡ n → units_in (length held.positions) held.unit_length inputs ≡ held.units
    → length inputs ≡ length held.positions * held.unit_length → want < n + m
    → length (unit_at word want) ≡ held.unit_length
held_length n m want word inputs held belongs some enough is_units whole below =
    let word_is = belongs.word_is in
    let p = get_or held.positions 0 0 in
    let inside : 0 < length held.positions = omega arith in
    let p_below : p < n + m = belongs.positions 0 0 inside in
    let same_units : unit_at held.units 0 ≡ unit_at word p =
    ap (λ (l : List (List ℕ)). unit_at l 0) belongs.units ∙ units_at word held.positions 0 inside in
    word_is.equal want [] (omega (arith, word_is.count)) ∙ sym (word_is.equal p [] (omega (arith, word_is.count)))
    ∙ ap (λ (u : List ℕ). length u) (sym same_units) ∙ ap (λ (l : List (List ℕ)). length (unit_at l 0)) (sym is_units)
    ∙ length-unit (length held.positions) held.unit_length inputs 0 inside whole

-- the sum by a plan is the wanted unit
pub sum_is_unit : (n m want : ℕ) (word : List (List ℕ)) (ws inputs unit : List ℕ) (held : HeldUnits) → AreUnitsOf n m word held → 1 ≤ n
    → length held.positions ≡ n → units_in (length held.positions) held.unit_length inputs ≡ held.units
    → length inputs ≡ length held.positions * held.unit_length → want < n + m → length ws ≡ n
    → GivesUnit n held.positions want ws → length unit ≡ held.unit_length
    → IsWeightedSum ws (units_in (length ws) held.unit_length inputs) unit → unit ≡ unit_at word want
sum_is_unit n m want word ws inputs unit held belongs some enough is_units whole below count plan fits sum =
    let wanted_length = held_length n m want word inputs held belongs some enough is_units whole below in
    let units_are : units_in (length ws) held.unit_length inputs ≡ map (unit_at word) held.positions =
    ap (λ (c : ℕ). units_in c held.unit_length inputs) (count ∙ sym enough) ∙ is_units ∙ belongs.units in
    let wanted = plan m word belongs.word_is belongs.positions below in
    ext_get_or 0 unit (unit_at word want) (fits ∙ sym wanted_length)
    (λ k inside.
    sum.column k inside ∙ ap (λ (l : List (List ℕ)). weighted_sum ws (column_of k l)) units_are
    ∙ sym (wanted.column k (subst (λ (l : ℕ). k < l) (fits ∙ sym wanted_length) inside)))

-- one data unit more
pub data_more : (n m want : ℕ) (word : List (List ℕ)) (ws inputs : List ℕ) (held : HeldUnits) (old new : UnitList)
    → AreUnitsOf n m word held → 1 ≤ n → length held.positions ≡ n
    → units_in (length held.positions) held.unit_length inputs ≡ held.units
    → length inputs ≡ length held.positions * held.unit_length → want < n → length ws ≡ n → GivesUnit n held.positions want ws
    → old.unit_length ≡ held.unit_length → AddsSum ws inputs old new → old.units ≡ take want word → new.units ≡ take (want + 1) word
data_more n m want word ws inputs held old new belongs some enough is_units whole below count plan same step was =
    let A : ℕ → Type 0 = λ l. IsWeightedSum ws (units_in (length ws) l inputs) step.unit in
    let is_unit : step.unit ≡ unit_at word want =
    sum_is_unit n m want word ws inputs step.unit held belongs some enough is_units whole (omega arith) count plan
    (step.fits ∙ same) (subst A same step.sum) in
    step.grown ∙ ap₂ (λ (l : List (List ℕ)) (u : List ℕ). l ++ u ∷ []) was is_unit
    ∙ sym (take_more word want [] (omega (arith, belongs.word_is.count)))

-- a scratch list keeps its length
pub scratch_kept : (n len : ℕ) (new old view : List ℕ) → length old ≡ len → view ≡ old → length view ≡ n → length new ≡ length view
    → length (take n (new ++ drop (length new) old)) ≡ len
scratch_kept n len new old view is_old is_view counted same =
    let kept : length old ≡ n = sym (ap (λ (l : List ℕ). length l) is_view) ∙ counted in
    ap (λ (l : List ℕ). length l) (written_whole n new old kept (same ∙ counted))
    ∙ same ∙ ap (λ (l : List ℕ). length l) is_view ∙ is_old

pub count_more : (count : ℕ) (old new : UnitList) (ws inputs : List ℕ) → length old.units ≡ count → AddsSum ws inputs old new
    → length new.units ≡ count + 1
count_more count old new ws inputs was step =
    ap (λ (l : List (List ℕ)). length l) step.grown ∙ length-append old.units (step.unit ∷ []) ∙ ap (λ (n : ℕ). n + 1) was
