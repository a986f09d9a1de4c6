use Rattle.std.proofs.Common.{◌≡◌, drop}
use Rattle.galois.specs.Polynomial.{polynomial_value}
use Rattle.galois.proofs.polynomial.value_of.Given as goal

abbrev pub invariant-loop-degree : goal.invariant-loop-degree
invariant-loop-degree l = l.value ≡ polynomial_value (drop l.degree l.coefficients) l.x
