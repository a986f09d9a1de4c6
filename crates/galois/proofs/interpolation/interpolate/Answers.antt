use Rattle.std.proofs.Common.{arith}
use Rattle.galois.specs.declared.interpolation.Point8.{Point8}
use Rattle.galois.proofs.PolynomialThroughPoints.{through_start, through_step, apart_at}
use Rattle.galois.proofs.interpolation.interpolate.Goals as goal

pub loop-point-init : goal.loop-point-init
loop-point-init c =
    through_start c.new-coefficients.result.items c.in_ok-roots.roots.items c.new-coefficients.ensures.items c.in_ok-roots.ensures.items

pub take_point-requires-clause-apart : goal.take_point-requires-clause-apart
take_point-requires-clause-apart c =
    let d : Point8 = record { x = 0; y = 0 } in
    apart_at c.as_slice-point-items.result.now c.loop-point.point-index d c.loop-point.coefficients.items c.loop-point.roots.items
    (rw c.as_slice-point-items.ensures c.requires.apart) (omega arith) c.loop-point.invariant

pub loop-point-preserved : goal.loop-point-preserved
loop-point-preserved c =
    let d : Point8 = record { x = 0; y = 0 } in
    through_step c.as_slice-point-items.result.now c.loop-point.point-index d c.loop-point.coefficients.items c.loop-point.roots.items
    c.take_point.new.coefficients.items c.take_point.new.roots.items (rw c.as_slice-point-items.ensures c.requires.apart)
    (omega arith) c.loop-point.invariant c.in_ok-take_point.ensures
