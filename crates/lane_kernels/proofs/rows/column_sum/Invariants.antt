use Rattle.std.proofs.Common.{◌≡◌}
use Rattle.lane_kernels.specs.Rows.{row_total}
use Rattle.lane_kernels.proofs.rows.column_sum.Given as goal

abbrev pub invariant-loop-unit : goal.invariant-loop-unit
invariant-loop-unit l = l.sum ≡ row_total l.tables l.rows l.row l.inputs l.len l.column l.unit
