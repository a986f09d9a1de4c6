use Rattle.std.proofs.Common.{◌-◌, get_or, ap, ◌∙◌, arith}
use Rattle.galois.specs.Field.{field_sum}
use Rattle.galois.proofs.HornersRule.{horner_start, horner_step}
use Rattle.galois.proofs.polynomial.value_of.Goals as goal

pub loop-degree-init : goal.loop-degree-init
loop-degree-init c = horner_start c.args.coefficients.now c.args.x

pub loop-degree-preserved : goal.loop-degree-preserved
loop-degree-preserved c =
    let cs = c.args.coefficients.now in
    c.add-value.ensures ∙ ap (field_sum (get_or cs (c.loop-degree.degree - 1) 0)) c.mul.ensures
    ∙ horner_step cs c.args.x c.loop-degree.degree c.loop-degree.value c.type_inv.coefficients (omega arith)
    (omega arith) (omega arith) c.loop-degree.invariant
