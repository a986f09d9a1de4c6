use Rattle.std.proofs.Common.{length}
use Rattle.file_heads.proofs.head.Head.+live_from.Given as goal

abbrev pub decreases-live_from : goal.decreases-live_from
decreases-live_from l = length l.places.now
