use Rattle.std.proofs.Common.{arith}
use Rattle.std.proofs.lemmas.Result.{on_ok_weaker}
use Rattle.galois.proofs.PolynomialThroughPoints.{takes_point_as}
use Rattle.galois.proofs.interpolation.take_point.Goals as goal

pub returns : goal.returns
returns c =
    on_ok_weaker c.times_root.result
    (λ product.
    takes_point_as c.args.point c.args.coefficients.now.items c.args.roots.now.items c.add_multiple.new.coefficients.items
    c.times_root.new.coefficients.items c.scale_at-scale.result (omega arith) (omega arith)
    c.requires.bytes c.requires.root_bytes (omega arith) c.requires.wide
    (cc (c.scale_at-scale.ensures, c.deref.ensures.value, c.deref-2.ensures.value))
    (cc (c.in_ok-add_multiple.ensures, c.deref-3.ensures.value)) product)
    c.times_root.ensures
