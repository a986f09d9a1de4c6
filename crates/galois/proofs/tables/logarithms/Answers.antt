use Rattle.std.proofs.Common.{refl}
use Rattle.galois.specs.Field.{doubled, doubled_times}
use Rattle.galois.proofs.TableEntries.{logarithms_by_test}
use Rattle.galois.proofs.tables.logarithms.Goals as goal

pub returns : goal.returns
unfolding doubled doubled_times
returns c = logarithms_by_test _ refl
