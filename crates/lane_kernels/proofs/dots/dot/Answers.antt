use Rattle.std.proofs.Common.{arith}
use Rattle.lane_kernels.proofs.TotalLemmas.{one_row}
use Rattle.lane_kernels.proofs.dots.dot.Goals as goal

pub returns : goal.returns
returns g c =
    one_row g.row.N _ c.args.c.now c.args.inputs.now c.sums_of_rows.new.out (omega arith) (omega arith) (c.sums_of_rows.ensures 0 (omega arith))
