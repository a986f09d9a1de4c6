use Rattle.std.proofs.Common.{length}
use Rattle.write_units.proofs.old_data.+push_groups.Given as goal

abbrev pub decreases-push_groups : goal.decreases-push_groups
decreases-push_groups l = length l.pulled.now
