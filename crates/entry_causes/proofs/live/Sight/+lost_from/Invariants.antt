use Rattle.std.proofs.Common.{length}
use Rattle.entry_causes.proofs.live.Sight.+lost_from.Given as goal

abbrev pub decreases-lost_from : goal.decreases-lost_from
decreases-lost_from l = length l.groups.now
