use Rattle.std.proofs.Common.{◌≡◌, ℕ, ◌+◌, ◌*◌, ◌<◌, ◌≤◌, [], length, get_or}
use Rattle.lane_kernels.specs.Rows.{AddsUnit}
use Rattle.lane_kernels.proofs.rows.add_vectors.Given as goal

abbrev pub invariant-loop-part : goal.invariant-loop-part
invariant-loop-part g l = record {
  many : length l.sums ≡ g.row.K;
  done : (p : ℕ) → p < l.part → AddsUnit g.row.M l.first l.tables (λ k. get_or l.inputs (l.place + p * 32 + k) 0) (get_or l.fn.sums p []) (get_or l.sums p []);
  left : (p : ℕ) → l.part ≤ p → get_or l.sums p [] ≡ get_or l.fn.sums p [];
}
