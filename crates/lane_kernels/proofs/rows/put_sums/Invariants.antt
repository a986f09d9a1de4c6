use Rattle.std.proofs.Common.{◌*◌}
use Rattle.lane_kernels.specs.Rows.{RowsHold}
use Rattle.lane_kernels.proofs.rows.put_sums.Given as goal

abbrev pub invariant-loop-block : goal.invariant-loop-block
invariant-loop-block g l = RowsHold g.row.M l.count l.len (l.block * l.width) l.tables l.inputs l.out

abbrev pub invariant-loop-column : goal.invariant-loop-column
invariant-loop-column g l = RowsHold g.row.M l.count l.len l.column l.tables l.inputs l.out
