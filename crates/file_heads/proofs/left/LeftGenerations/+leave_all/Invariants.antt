use Rattle.std.proofs.Common.{length}
use Rattle.file_heads.proofs.left.LeftGenerations.+leave_all.Given as goal

abbrev pub decreases-leave_all : goal.decreases-leave_all
decreases-leave_all g l = length l.stripes.now
