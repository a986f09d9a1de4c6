use Rattle.std.proofs.Common.{length}
use Rattle.write_units.proofs.run_bytes.+bytes_up_to.Given as goal

abbrev pub decreases-bytes_up_to : goal.decreases-bytes_up_to
decreases-bytes_up_to l = length l.old.now
