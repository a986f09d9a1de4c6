use Rattle.std.proofs.Common.{[], get_or}
use Rattle.lane_kernels.specs.Rows.{PutsColumns}
use Rattle.lane_kernels.proofs.rows.put_vectors.Given as goal

abbrev pub invariant-loop-row : goal.invariant-loop-row
invariant-loop-row g l = PutsColumns l.row l.len l.at 32 (λ r k. get_or (get_or l.sums r []) k 0) l.fn.out l.out
