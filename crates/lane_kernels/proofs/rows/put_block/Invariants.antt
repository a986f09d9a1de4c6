use Rattle.std.proofs.Common.{◌+◌, ◌*◌}
use Rattle.lane_kernels.specs.Rows.{PutsColumns, row_total}
use Rattle.lane_kernels.proofs.rows.put_block.Given as goal

abbrev pub invariant-loop-part : goal.invariant-loop-part
invariant-loop-part g l = PutsColumns g.row.M l.len l.at (l.part * 32) (λ r k. row_total l.tables g.row.M r l.inputs l.len (l.at + k) l.count) l.fn.out l.out
