use Rattle.std.proofs.Common.{length}
use Rattle.write_units.proofs.run_bytes.+bytes_from.Given as goal

abbrev pub decreases-bytes_from : goal.decreases-bytes_from
decreases-bytes_from l = length l.old.now
