use Rattle.std.proofs.Common.{◌≡◌, ℕ, ◌+◌, ◌*◌, ◌<◌, length, get_or}
use Rattle.galois.specs.Field.{field_product}
use Rattle.lane_kernels.proofs.half_tables.half_products.Given as goal

abbrev pub invariant-loop-half : goal.invariant-loop-half
invariant-loop-half l = record {
  long : length l.table ≡ 32;
  low : (j : ℕ) → j < l.half → get_or l.table j 0 ≡ field_product l.c j;
  high : (j : ℕ) → j < l.half → get_or l.table (16 + j) 0 ≡ field_product l.c (j * 16);
}
