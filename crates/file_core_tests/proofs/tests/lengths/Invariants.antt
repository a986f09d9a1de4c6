use Rattle.std.proofs.Common.{vec_len}
use Rattle.file_core_tests.proofs.tests.lengths.Given as goal

abbrev pub decreases-loop-held : goal.decreases-loop-held
decreases-loop-held l = vec_len l.slots
