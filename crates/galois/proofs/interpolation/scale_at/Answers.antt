use Rattle.std.proofs.Common.{ℕ, ap, sym, ◌∙◌, arith}
use Rattle.galois.specs.Field.{field_sum, field_product}
use Rattle.galois.specs.Polynomial.{polynomial_value}
use Rattle.galois.proofs.PolynomialThroughPoints.{scale_by_inverse}
use Rattle.galois.proofs.interpolation.scale_at.Goals as goal

pub returns : goal.returns
returns c =
    let r = polynomial_value c.args.roots.now c.args.point.x in
    ap (λ (n : ℕ). field_product n r) c.mul.ensures
    ∙ scale_by_inverse c.add-missing.result c.inv.result r (omega arith) (omega arith) (omega (arith, c.value_of-2.ensures))
    (ap (λ (n : ℕ). field_product n c.inv.result) (sym c.value_of-2.ensures) ∙ c.inv.ensures)
    ∙ c.add-missing.ensures ∙ ap (field_sum c.args.point.y) c.value_of.ensures
