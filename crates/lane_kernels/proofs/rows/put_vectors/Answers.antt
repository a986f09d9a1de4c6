use Rattle.std.proofs.Common.{[], get_or, refl, arith}
use Rattle.lane_kernels.proofs.RowLemmas.{PutsColumns-chunk}
use Rattle.lane_kernels.proofs.rows.put_vectors.Goals as goal

pub loop-row-preserved : goal.loop-row-preserved
loop-row-preserved g c =
    let row = c.loop-row.row in
    PutsColumns-chunk g.row.M row c.args.len c.args.at 32 (λ r k. get_or (get_or c.args.sums.now r []) k 0) c.args.out.now c.loop-row.out
    (get_or c.args.sums.now row []) (omega arith) (omega arith) c.requires.within (c.requires.lanes row (omega arith)) (λ k within. refl)
    c.loop-row.invariant
