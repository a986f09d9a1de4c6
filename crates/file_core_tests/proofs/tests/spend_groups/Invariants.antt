use Rattle.std.proofs.Common.{vec_len}
use Rattle.file_core_tests.proofs.tests.spend_groups.Given as goal

abbrev pub decreases-loop-stripe : goal.decreases-loop-stripe
decreases-loop-stripe l = vec_len l.groups
