use Rattle.std.proofs.Common.{length, arith, inl, inr}
use Rattle.std.proofs.lemmas.Bool.{cases_lt}
use Rattle.galois.proofs.Roots.{zero_from_roots}
use Rattle.galois.proofs.laws.roots_are_few.Goals as goal

pub returns : goal.returns
returns c = λ d coefficients roots bytes count leading places different zeros. elim (cases_lt d (length roots)) [
  | inl more ↦
      absurd (leading (zero_from_roots roots coefficients places bytes different zeros (omega arith) d 0 (omega arith)))
  | inr few ↦ few
]
