use Rattle.std.proofs.Common.{length}
use Rattle.file_cells_tests.proofs.tests.+act_all.Given as goal

abbrev pub decreases-act_all : goal.decreases-act_all
decreases-act_all g l = length l.actions.now
