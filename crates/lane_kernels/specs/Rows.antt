-- Sums of several rows over the same units: in vectors, and in the rows of a buffer.
use Rattle.std.specs.Prelude.{◌≡◌, ℕ, zero, suc, ◌+◌, ◌*◌, ◌<◌, List, [], length, slice_index, slice_index_or}
use Rattle.galois.specs.Field.{field_sum}
use Rattle.lane_kernels.specs.Halves.{looked_up}
use Rattle.lane_kernels.specs.Lanes.{HasLanes}

-- the sum of the first n values of f
abbrev pub total_below : (ℕ → ℕ) → ℕ → ℕ
total_below f zero = 0
total_below f (suc n) = field_sum (total_below f n) (f n)

-- what the tables of row r have, in all, for the bytes of the first n inputs in one column
abbrev pub row_total : List (List ℕ) → ℕ → ℕ → List ℕ → ℕ → ℕ → ℕ → ℕ
row_total tables rows r inputs len column n =
    total_below (λ j. looked_up (slice_index_or tables (j * rows + r) []) (slice_index inputs (j * len + column))) n

-- each row's vector gains what its table, from the table `first` on, has for these bytes
pub record AddsUnit (rows first : ℕ) (tables : List (List ℕ)) (byte : ℕ → ℕ) (old new : List (List ℕ)) : Type 0 where
  pub many : length new ≡ rows
  pub row : (r : ℕ) → r < rows
      → HasLanes 32 (slice_index_or new r []) (λ k. field_sum (slice_index (slice_index_or old r []) k) (looked_up (slice_index_or tables (first + r) []) (byte k)))

-- each row's vector holds its totals over the first n inputs, in the columns from `at` on
pub record HoldsTotals (rows len at n : ℕ) (tables : List (List ℕ)) (inputs : List ℕ) (sums : List (List ℕ)) : Type 0 where
  pub many : length sums ≡ rows
  pub row : (r : ℕ) → r < rows → HasLanes 32 (slice_index_or sums r []) (λ k. row_total tables rows r inputs len (at + k) n)

-- in each of these rows of the output the columns from `at` on have these values, and those before are as they were
pub record PutsColumns (rows len at width : ℕ) (value : ℕ → ℕ → ℕ) (old new : List ℕ) : Type 0 where
  pub put : (r k : ℕ) → r < rows → k < width → slice_index new (r * len + (at + k)) ≡ value r k
  pub kept : (r k : ℕ) → k < at → slice_index new (r * len + k) ≡ slice_index old (r * len + k)

-- the rows of the output hold their totals in the columns below `upto`
pub record RowsHold (rows count len upto : ℕ) (tables : List (List ℕ)) (inputs out : List ℕ) : Type 0 where
  pub total : (r k : ℕ) → r < rows → k < upto → slice_index out (r * len + k) ≡ row_total tables rows r inputs len k count
