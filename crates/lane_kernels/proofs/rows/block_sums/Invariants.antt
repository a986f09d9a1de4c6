use Rattle.std.proofs.Common.{ℕ, ◌+◌, ◌*◌, ◌<◌, [], get_or}
use Rattle.lane_kernels.specs.Rows.{HoldsTotals}
use Rattle.lane_kernels.proofs.rows.block_sums.Given as goal

abbrev pub invariant-loop-unit : goal.invariant-loop-unit
invariant-loop-unit g l = (p : ℕ) → p < g.row.K → HoldsTotals g.row.M l.len (l.at + p * 32) l.unit l.tables l.inputs (get_or l.sums p [])
