use Rattle.std.proofs.Common.{◌≡◌, ◌+◌, ◌*◌, subst, refl, add-one, suc-mul, ◌∙◌, sym, ap}
use Rattle.lane_kernels.specs.Rows.{RowsHold, row_total}
use Rattle.lane_kernels.proofs.RowLemmas.{RowsHold-more}
use Rattle.lane_kernels.proofs.rows.put_sums.Goals as goal

pub loop-block-preserved : goal.loop-block-preserved
loop-block-preserved g c =
    let width = g.row.K * 32 in
    let block = c.loop-block.block in
    let at = block * width in
    let next : at + width ≡ (block + 1) * width = sym (ap (λ n. n * width) (add-one block) ∙ suc-mul block width) in
    subst (λ n. RowsHold g.row.M c.args.count c.args.len n c.args.tables.now c.args.inputs.now c.put_block.new.out) next
    (RowsHold-more g.row.M c.args.count c.args.len at width c.args.tables.now c.args.inputs.now c.loop-block.out c.put_block.new.out
    (λ r k. row_total c.args.tables.now g.row.M r c.args.inputs.now c.args.len (at + k) c.args.count)
    c.loop-block.invariant c.put_block.ensures (λ r k below within. refl))

pub loop-column-preserved : goal.loop-column-preserved
loop-column-preserved g c =
    let column = c.loop-column.column in
    RowsHold-more g.row.M c.args.count c.args.len column 1 c.args.tables.now c.args.inputs.now c.loop-column.out c.put_column.new.out
    (λ r k. row_total c.args.tables.now g.row.M r c.args.inputs.now c.args.len (column + k) c.args.count)
    c.loop-column.invariant c.put_column.ensures (λ r k below within. refl)
