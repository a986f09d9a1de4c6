use Rattle.std.proofs.Common.{◌+◌}
use Rattle.lane_kernels.specs.Rows.{PutsColumns, row_total}
use Rattle.lane_kernels.proofs.rows.put_column.Given as goal

abbrev pub invariant-loop-row : goal.invariant-loop-row
invariant-loop-row l = PutsColumns l.row l.len l.column 1 (λ r k. row_total l.tables l.rows r l.inputs l.len (l.column + k) l.count) l.fn.out l.out
