use Rattle.std.proofs.Common.{arith}
use Rattle.lane_kernels.proofs.TotalLemmas.{rows_are_weighted}
use Rattle.lane_kernels.proofs.weighted.sums_of_rows.Goals as goal

pub returns : goal.returns
returns g c =
    rows_are_weighted g.row.M c.args.count c.args.len c.tables_of-tables.result c.args.weights.now c.args.inputs.now c.put_sums.new.out
    (omega arith) c.requires.weights (λ i. (c.type_inv.inputs i).fits) c.tables_of-tables.ensures
    c.put_sums.ensures
