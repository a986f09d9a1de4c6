use Rattle.std.proofs.Common.{vec_len}
use Rattle.file_core_tests.proofs.placements.spend_units.Given as goal

abbrev pub decreases-loop-unit : goal.decreases-loop-unit
decreases-loop-unit g l = vec_len l.units
