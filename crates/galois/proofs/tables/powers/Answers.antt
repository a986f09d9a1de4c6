use Rattle.std.proofs.Common.{refl}
use Rattle.galois.specs.Field.{doubled, doubled_times}
use Rattle.galois.proofs.TableEntries.{powers_by_test}
use Rattle.galois.proofs.tables.powers.Goals as goal

pub returns : goal.returns
unfolding doubled doubled_times
returns c = powers_by_test _ refl
