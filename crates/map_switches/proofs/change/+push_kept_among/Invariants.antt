use Rattle.std.proofs.Common.{length}
use Rattle.map_switches.proofs.change.+push_kept_among.Given as goal

abbrev pub decreases-push_kept_among : goal.decreases-push_kept_among
decreases-push_kept_among g l = length l.units.now
