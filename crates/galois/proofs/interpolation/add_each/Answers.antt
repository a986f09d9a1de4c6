use Rattle.std.proofs.Common.{arith}
use Rattle.galois.proofs.PolynomialThroughPoints.{added_by_entry}
use Rattle.galois.proofs.interpolation.add_each.Goals as goal

pub returns : goal.returns
returns c =
    added_by_entry c.args.scale c.loop-degree.coefficients c.args.coefficients.now c.args.others.now (omega arith) c.requires
    (λ k within. c.loop-degree.invariant.done k (omega arith))
