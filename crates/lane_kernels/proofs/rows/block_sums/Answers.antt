use Rattle.std.proofs.Common.{◌+◌, ◌*◌, [], get_or, refl, arith}
use Rattle.lane_kernels.proofs.RowLemmas.{totals_of_none, totals_of_more}
use Rattle.lane_kernels.proofs.rows.block_sums.Goals as goal

pub loop-unit-init : goal.loop-unit-init
loop-unit-init g c = λ p below. totals_of_none g.row.K g.row.M c.args.len (c.args.at + p * 32) p c.args.tables.now c.args.inputs.now below

pub loop-unit-preserved : goal.loop-unit-preserved
loop-unit-preserved g c =
    let unit = c.loop-unit.unit in
    λ p below.
    totals_of_more g.row.M c.args.len (c.args.at + p * 32) unit (unit * g.row.M) (unit * c.args.len + c.args.at + p * 32)
    c.args.tables.now c.args.inputs.now (get_or c.loop-unit.sums p []) (get_or c.add_vectors.new.sums p []) refl (omega arith)
    (c.loop-unit.invariant p below) (c.add_vectors.ensures p below)
