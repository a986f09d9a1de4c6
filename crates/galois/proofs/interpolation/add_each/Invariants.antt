use Rattle.std.proofs.Common.{◌≡◌, ℕ, ◌<◌, ◌≤◌, get_or}
use Rattle.galois.specs.Field.{field_sum, field_product}
use Rattle.galois.proofs.interpolation.add_each.Given as goal

abbrev pub invariant-loop-degree : goal.invariant-loop-degree
invariant-loop-degree l = record {
  done : (k : ℕ) → k < l.degree → get_or l.coefficients k 0 ≡ field_sum (get_or l.fn.coefficients k 0) (field_product l.scale (get_or l.others k 0));
  left : (k : ℕ) → l.degree ≤ k → get_or l.coefficients k 0 ≡ get_or l.fn.coefficients k 0;
}
