use Rattle.std.proofs.Common.{arith}
use Rattle.galois.proofs.Roots.{same_from_values}
use Rattle.galois.proofs.laws.values_determine.Goals as goal

pub returns : goal.returns
returns c = λ n elements first second places bytes others count first_count second_count different agree.
    same_from_values elements first second places bytes others different (omega arith) (omega arith) agree
