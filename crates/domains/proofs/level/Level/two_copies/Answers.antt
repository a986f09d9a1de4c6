-- It is the tenth row of the table.
use Rattle.std.proofs.Common.{refl, lit<}
use Rattle.domains.proofs.level.Level.two_copies.Goals as goal

pub invariant_of-result : goal.invariant_of-result
invariant_of-result c = (9, lit< tt, refl)
