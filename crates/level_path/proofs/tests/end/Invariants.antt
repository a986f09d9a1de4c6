use Rattle.std.proofs.Common.{vec_len}
use Rattle.level_path.proofs.tests.end.Given as goal

abbrev pub decreases-loop-group : goal.decreases-loop-group
decreases-loop-group l = vec_len l.groups
