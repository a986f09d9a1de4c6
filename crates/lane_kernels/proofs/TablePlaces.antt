-- Tables in one list, unit by unit: where the table of a row and a unit stands.
use Rattle.std.proofs.Common.{◌≡◌, ◌≢◌, ℕ, ◌+◌, ◌*◌, ◌<◌, ◌≤◌, List, [], length, get_or, set, sym, subst, arith, inl, inr, suc, suc-mul, mul-le-mul_right}
use Rattle.std.proofs.lemmas.Bool.{cases_lt}
use Rattle.std.proofs.lemmas.List.{get_or-set_same, get_or-set_other}
use Rattle.lane_kernels.specs.Halves.{HoldsHalves, HoldTables}

-- a place in an earlier row comes before all places of a later one
pub row_before : (r s len k : ℕ) → r < s → k < len → r * len + k < s * len
row_before r s len k earlier within =
    let rows : suc r * len ≤ s * len = mul-le-mul_right len earlier in
    omega (arith, suc-mul r len, rows)

-- a table of a later unit leaves those of the earlier units
pub tables_kept : (rows count unit row : ℕ) (weights : List ℕ) (tables : List (List ℕ)) (t : List ℕ)
    → HoldTables rows count unit weights tables → HoldTables rows count unit weights (set tables (unit * rows + row) t)
tables_kept rows count unit row weights tables t held = record {
  table = λ r j r_below j_below.
      let before = row_before j unit rows r j_below r_below in
      let other : j * rows + r ≢ unit * rows + row = omega arith in
      subst (HoldsHalves (get_or weights (r * count + j) 0)) (sym (get_or-set_other tables (unit * rows + row) (j * rows + r) t [] other))
      (held.table r j r_below j_below);
}

-- the table of one row more
pub table_put : (rows count unit row : ℕ) (weights : List ℕ) (tables : List (List ℕ)) (t : List ℕ) → unit * rows + row < length tables
    → ((r : ℕ) → r < row → HoldsHalves (get_or weights (r * count + unit) 0) (get_or tables (unit * rows + r) []))
    → HoldsHalves (get_or weights (row * count + unit) 0) t
    → (r : ℕ) → r < row + 1 → HoldsHalves (get_or weights (r * count + unit) 0) (get_or (set tables (unit * rows + row) t) (unit * rows + r) [])
table_put rows count unit row weights tables t inside here new r below =
    let P : ℕ → Type 0 = λ q. HoldsHalves (get_or weights (q * count + unit) 0) (get_or (set tables (unit * rows + row) t) (unit * rows + q) []) in
    elim (cases_lt r row) [
      | inl early ↦
          let other : unit * rows + r ≢ unit * rows + row = omega arith in
          subst (HoldsHalves (get_or weights (r * count + unit) 0)) (sym (get_or-set_other tables (unit * rows + row) (unit * rows + r) t [] other)) (here r early)
      | inr late ↦
          let same : r ≡ row = omega arith in
          subst P (sym same) (subst (HoldsHalves (get_or weights (row * count + unit) 0)) (sym (get_or-set_same tables (unit * rows + row) t [] inside)) new)
    ]
