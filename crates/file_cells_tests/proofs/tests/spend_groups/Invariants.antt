use Rattle.std.proofs.Common.{vec_len}
use Rattle.file_cells_tests.proofs.tests.spend_groups.Given as goal

abbrev pub decreases-loop-group : goal.decreases-loop-group
decreases-loop-group l = vec_len l.groups
