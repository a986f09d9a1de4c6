use Rattle.std.proofs.Common.{◌∙◌, ◌+◌, ap, arith}
use Rattle.lane_kernels.specs.Rows.{row_total}
use Rattle.lane_kernels.proofs.RowLemmas.{PutsColumns-byte}
use Rattle.lane_kernels.proofs.rows.put_column.Goals as goal

pub loop-row-preserved : goal.loop-row-preserved
loop-row-preserved c =
    let row = c.loop-row.row in
    PutsColumns-byte c.args.rows row c.args.len c.args.column
    (λ r k. row_total c.args.tables.now c.args.rows r c.args.inputs.now c.args.len (c.args.column + k) c.args.count)
    c.args.out.now c.loop-row.out c.column_sum.result (omega arith) (omega arith) c.requires.within
    (c.column_sum.ensures ∙ ap (λ k. row_total c.args.tables.now c.args.rows row c.args.inputs.now c.args.len k c.args.count) (omega arith))
    c.loop-row.invariant
