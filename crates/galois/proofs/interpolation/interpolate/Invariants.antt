use Rattle.std.proofs.Common.{take}
use Rattle.galois.proofs.PolynomialThroughPoints.{IsThrough}
use Rattle.galois.proofs.interpolation.interpolate.Given as goal

abbrev pub invariant-loop-point : goal.invariant-loop-point
invariant-loop-point l = IsThrough (take l.point-index l.point-items) l.coefficients.items l.roots.items
