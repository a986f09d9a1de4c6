use Rattle.std.proofs.Common.{length}
use Rattle.file_heads.proofs.unclear.+first_unclear.Given as goal

abbrev pub decreases-first_unclear : goal.decreases-first_unclear
decreases-first_unclear g l = length l.stripes.now
