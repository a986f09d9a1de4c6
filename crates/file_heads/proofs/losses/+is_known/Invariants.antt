use Rattle.std.proofs.Common.{length}
use Rattle.file_heads.proofs.losses.+is_known.Given as goal

abbrev pub decreases-is_known : goal.decreases-is_known
decreases-is_known g l = length l.stripes.now
