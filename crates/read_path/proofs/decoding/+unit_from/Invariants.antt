use Rattle.std.proofs.Common.{length}
use Rattle.read_path.proofs.decoding.+unit_from.Given as goal

abbrev pub decreases-unit_from : goal.decreases-unit_from
decreases-unit_from l = length l.positions.now
