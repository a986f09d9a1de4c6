use Rattle.std.proofs.Common.{◌≡◌, ◌∷◌, ◌∙◌, ℕ, ap, get_or, length, arith}
use Rattle.galois.proofs.PolynomialThroughPoints.{linear_times_by_entry}
use Rattle.galois.proofs.interpolation.times_root_below.Goals as goal

pub returns : goal.returns
returns c =
    let old = c.args.coefficients.now in
    let at_end : c.loop-degree.degree ≡ length old = omega arith in
    linear_times_by_entry c.args.root c.loop-degree.coefficients old c.loop-degree.carried (omega arith) (omega arith)
    (λ k within. c.loop-degree.invariant.done k (omega arith))
    (c.loop-degree.invariant.top ∙ ap (λ (n : ℕ). get_or (0 ∷ old) n 0) at_end)
