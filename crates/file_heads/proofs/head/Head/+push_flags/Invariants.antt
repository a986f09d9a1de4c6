use Rattle.std.proofs.Common.{length}
use Rattle.file_heads.proofs.head.Head.+push_flags.Given as goal

abbrev pub decreases-push_flags : goal.decreases-push_flags
decreases-push_flags l = length l.places.now
