use Rattle.std.proofs.Common.{length}
use Rattle.file_heads.proofs.losses.+lost_from.Given as goal

abbrev pub decreases-lost_from : goal.decreases-lost_from
decreases-lost_from g l = length l.stripes.now
