use Rattle.std.proofs.Common.{vec_len}
use Rattle.file_core_tests.proofs.placements.spend_stripes.Given as goal

abbrev pub decreases-loop-stripe : goal.decreases-loop-stripe
decreases-loop-stripe g l = vec_len l.stripes
