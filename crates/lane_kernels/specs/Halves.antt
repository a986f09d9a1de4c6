-- Tables of the products of a factor with the halves of bytes.
use Rattle.std.specs.Prelude.{◌≡◌, ℕ, ◌+◌, ◌*◌, ◌/◌, ◌%◌, ◌<◌, List, [], slice_index, slice_index_or}
use Rattle.galois.specs.Field.{IsByte, field_sum, field_product}

-- the first sixteen entries are the products of c with the low halves, the others those with the high halves
pub record HoldsHalves (c : ℕ) (table : List ℕ) : Type 0 where
  pub factor : IsByte c
  pub low : (j : ℕ) → j < 16 → slice_index table j ≡ field_product c j
  pub high : (j : ℕ) → j < 16 → slice_index table (16 + j) ≡ field_product c (j * 16)

-- the sum of the entries for the two halves of a byte
abbrev pub looked_up : List ℕ → ℕ → ℕ
looked_up table x = field_sum (slice_index table (x % 16)) (slice_index table (16 + x / 16))

-- for each row of `count` weights and each unit below n there is the table of the unit's weight in that row
pub record HoldTables (rows count n : ℕ) (weights : List ℕ) (tables : List (List ℕ)) : Type 0 where
  pub table : (r j : ℕ) → r < rows → j < n → HoldsHalves (slice_index weights (r * count + j)) (slice_index_or tables (j * rows + r) [])
