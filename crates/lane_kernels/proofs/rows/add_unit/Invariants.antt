use Rattle.std.proofs.Common.{◌≡◌, ℕ, ◌+◌, ◌<◌, ◌≤◌, [], length, get_or, bit_xor}
use Rattle.lane_kernels.specs.Halves.{looked_up}
use Rattle.lane_kernels.specs.Lanes.{HasLanes}
use Rattle.lane_kernels.proofs.rows.add_unit.Given as goal

abbrev pub invariant-loop-row : goal.invariant-loop-row
invariant-loop-row g l = record {
  many : length l.sums ≡ g.row.M;
  done : (r : ℕ) → r < l.row → HasLanes 32 (get_or l.sums r []) (λ k. bit_xor (get_or (get_or l.fn.sums r []) k 0) (looked_up (get_or l.tables (l.first + r) []) (get_or l.x k 0)));
  left : (r : ℕ) → l.row ≤ r → get_or l.sums r [] ≡ get_or l.fn.sums r [];
}
