-- Sums of rows, lane by lane, and the columns that are written.
use Rattle.std.proofs.Common.{◌≡◌, ℕ, ◌+◌, ◌-◌, ◌*◌, ◌<◌, ◌≤◌, List, [], ◌∷◌, zero, length, get_or, set, replicate, bit_xor, sym, ap, ap₂, subst, ◌∙◌, refl, arith, inl, inr, add-one, suc, suc-mul, mul-le-mul_right}
use Rattle.std.proofs.lemmas.Bool.{cases_lt}
use Rattle.std.proofs.lemmas.Simd.{get_or-replicate, length-replicate}
use Rattle.lane_kernels.specs.Halves.{looked_up}
use Rattle.std.specs.Simd.Lanes.{put_chunk}
use Rattle.std.proofs.lemmas.Simd.{get_or-put_chunk_at, get_or-put_chunk_below, get_or-put_chunk_above}
use Rattle.lane_kernels.specs.Lanes.{HasLanes}
use Rattle.lane_kernels.proofs.TablePlaces.{row_before}
use Rattle.lane_kernels.specs.Rows.{AddsUnit, HoldsTotals, PutsColumns, RowsHold, total_below, row_total}

-- the vectors of no inputs yet
zero_lanes : (rows r : ℕ) (f : ℕ → ℕ) → r < rows → ((k : ℕ) → f k ≡ 0) → HasLanes 32 (get_or (replicate rows (replicate 32 0)) r []) f
zero_lanes rows r f below zeros =
    let P : List ℕ → Type 0 = λ v. HasLanes 32 v f in
    subst P (sym (get_or-replicate rows r (replicate 32 0) [] below))
    (record { long = length-replicate {A = ℕ} 32 0; each = λ k l. get_or-replicate 32 k 0 0 l ∙ sym (zeros k) })

pub totals_of_none : (vectors rows len at p : ℕ) (tables : List (List ℕ)) (inputs : List ℕ) → p < vectors
    → HoldsTotals rows len at 0 tables inputs (get_or (replicate vectors (replicate rows (replicate 32 0))) p [])
totals_of_none vectors rows len at p tables inputs below =
    let P : List (List ℕ) → Type 0 = HoldsTotals rows len at 0 tables inputs in
    subst P (sym (get_or-replicate vectors p (replicate rows (replicate 32 0)) [] below))
    (record {
      many = length-replicate rows (replicate 32 0);
      row = λ r r_below. zero_lanes rows r (λ k. row_total tables rows r inputs len (at + k) 0) r_below (λ k. refl);
    })

-- one input more
pub totals_of_more : (rows len at unit first place : ℕ) (tables : List (List ℕ)) (inputs : List ℕ) (old new : List (List ℕ))
    → first ≡ unit * rows → place ≡ unit * len + at
    → HoldsTotals rows len at unit tables inputs old → AddsUnit rows first tables (λ k. get_or inputs (place + k) 0) old new
    → HoldsTotals rows len at (unit + 1) tables inputs new
totals_of_more rows len at unit first place tables inputs old new is_first is_place before step = record {
  many = step.many;
  row = λ r below. record {
    long = (step.row r below).long;
    each = λ k l.
        let f : ℕ → ℕ = λ j. looked_up (get_or tables (j * rows + r) []) (get_or inputs (j * len + (at + k)) 0) in
        (step.row r below).each k l
        ∙ ap₂ bit_xor ((before.row r below).each k l)
        (ap₂ (λ (i p : ℕ). looked_up (get_or tables i []) (get_or inputs p 0)) (ap (λ (n : ℕ). n + r) is_first) (omega arith))
        ∙ ap (total_below f) (sym (add-one unit));
  };
}

pub PutsColumns-none : (len at width : ℕ) (value : ℕ → ℕ → ℕ) (old : List ℕ) → PutsColumns 0 len at width value old old
PutsColumns-none len at width value old = record {
  put = λ r k below within. absurd (omega arith);
  kept = λ r k within. refl;
}

-- a vector in one row more
pub PutsColumns-chunk : (rows row len at width : ℕ) (value : ℕ → ℕ → ℕ) (old mid v : List ℕ) → length mid ≡ rows * len → row < rows
    → at + width ≤ len → length v ≡ width → ((k : ℕ) → k < width → get_or v k 0 ≡ value row k)
    → PutsColumns row len at width value old mid → PutsColumns (row + 1) len at width value old (put_chunk (row * len + at) mid v)
PutsColumns-chunk rows row len at width value old mid v whole below room long is before =
    let place = row * len + at in
    let end : row * len + len ≤ rows * len = (let h : suc row * len ≤ rows * len = mul-le-mul_right len below in omega (arith, suc-mul row len, h)) in
    record {
      put = λ r k r_below within.
          elim (cases_lt r row) [
            | inl early ↦
                let gap = row_before r row len (at + k) early (omega arith) in
                get_or-put_chunk_below place mid v (r * len + (at + k)) 0 (omega arith) ∙ before.put r k early within
            | inr late ↦
                let same : r ≡ row = omega arith in
                ap (λ q. get_or (put_chunk place mid v) (q * len + (at + k)) 0) same
                ∙ ap (λ i. get_or (put_chunk place mid v) i 0) (omega arith)
                ∙ get_or-put_chunk_at place mid v k 0 (omega arith) (omega arith) ∙ is k within ∙ ap (λ q. value q k) (sym same)
          ];
      kept = λ r k within.
          elim (cases_lt row r) [
            | inl later ↦
                let rows_apart : suc row * len ≤ r * len = mul-le-mul_right len later in
                get_or-put_chunk_above place mid v (r * len + k) 0 (omega (arith, suc-mul row len, rows_apart)) ∙ before.kept r k within
            | inr not_later ↦
                let rows_apart : r * len ≤ row * len = mul-le-mul_right len not_later in
                get_or-put_chunk_below place mid v (r * len + k) 0 (omega arith) ∙ before.kept r k within
          ];
    }

-- columns more in each row
pub RowsHold-more : (rows count len at width : ℕ) (tables : List (List ℕ)) (inputs old new : List ℕ) (value : ℕ → ℕ → ℕ)
    → RowsHold rows count len at tables inputs old → PutsColumns rows len at width value old new
    → ((r k : ℕ) → r < rows → k < width → value r k ≡ row_total tables rows r inputs len (at + k) count)
    → RowsHold rows count len (at + width) tables inputs new
RowsHold-more rows count len at width tables inputs old new value before step is = record {
  total = λ r k r_below below.
      elim (cases_lt k at) [
        | inl early ↦ step.kept r k early ∙ before.total r k r_below early
        | inr late ↦
            let j = k - at in
            let here : k ≡ at + j = omega arith in
            ap (λ i. get_or new (r * len + i) 0) here ∙ step.put r j r_below (omega arith) ∙ is r j r_below (omega arith)
            ∙ ap (λ i. row_total tables rows r inputs len i count) (sym here)
      ];
}

-- a write of one element is one of a vector of one lane
set_is_chunk : (xs : List ℕ) (i y : ℕ) → set xs i y ≡ put_chunk i xs (y ∷ [])
set_is_chunk [] i y = refl
set_is_chunk (x ∷ []) zero y = refl
set_is_chunk (x ∷ z ∷ xs) zero y = refl
set_is_chunk (x ∷ xs) (suc i) y = ap (λ (l : List ℕ). x ∷ l) (set_is_chunk xs i y)

-- a byte in one row more
pub PutsColumns-byte : (rows row len at : ℕ) (value : ℕ → ℕ → ℕ) (old mid : List ℕ) (y : ℕ) → length mid ≡ rows * len → row < rows
    → at < len → y ≡ value row 0
    → PutsColumns row len at 1 value old mid → PutsColumns (row + 1) len at 1 value old (set mid (row * len + at) y)
PutsColumns-byte rows row len at value old mid y whole below room is before =
    subst (λ l. PutsColumns (row + 1) len at 1 value old l) (sym (set_is_chunk mid (row * len + at) y))
    (PutsColumns-chunk rows row len at 1 value old mid (y ∷ []) whole below (omega arith) refl
    (λ k within. let first : k ≡ 0 = omega arith in ap (λ i. get_or (y ∷ []) i 0) first ∙ is ∙ ap (value row) (sym first)) before)

-- columns right of those that were put
pub PutsColumns-then : (rows len at width next more : ℕ) (value last : ℕ → ℕ → ℕ) (old mid new : List ℕ) → next ≡ at + width
    → PutsColumns rows len at width value old mid → PutsColumns rows len next more last mid new
    → ((r k : ℕ) → r < rows → k < more → last r k ≡ value r (width + k))
    → PutsColumns rows len at (width + more) value old new
PutsColumns-then rows len at width next more value last old mid new is_next before step is = record {
  put = λ r k below within.
      elim (cases_lt k width) [
        | inl early ↦ step.kept r (at + k) (omega arith) ∙ before.put r k below early
        | inr late ↦
            let j = k - width in
            let here : k ≡ width + j = omega arith in
            let same : at + k ≡ next + j = omega arith in
            ap (λ (i : ℕ). get_or new (r * len + i) 0) same ∙ step.put r j below (omega arith) ∙ is r j below (omega arith)
            ∙ ap (value r) (sym here)
      ];
  kept = λ r k within. step.kept r k (omega arith) ∙ before.kept r k within;
}
