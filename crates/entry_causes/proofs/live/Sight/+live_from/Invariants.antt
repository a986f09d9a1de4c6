use Rattle.std.proofs.Common.{length}
use Rattle.entry_causes.proofs.live.Sight.+live_from.Given as goal

abbrev pub decreases-live_from : goal.decreases-live_from
decreases-live_from l = length l.places.now
