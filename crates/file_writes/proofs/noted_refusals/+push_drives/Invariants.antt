use Rattle.std.proofs.Common.{length}
use Rattle.file_writes.proofs.noted_refusals.+push_drives.Given as goal

abbrev pub decreases-push_drives : goal.decreases-push_drives
decreases-push_drives l = length l.found.now
