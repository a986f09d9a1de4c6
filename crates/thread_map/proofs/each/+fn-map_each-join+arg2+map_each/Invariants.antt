use Rattle.std.proofs.Common.{◌+◌, ◌*◌}
use Rattle.thread_map.proofs.each.+fn-map_each-join+arg2+map_each.Given as goal

abbrev pub decreases-map_each : goal.decreases-map_each
decreases-map_each g l = 2 * l.values.len

abbrev pub decreases-join+arg2 : goal.decreases-join+arg2
decreases-join+arg2 g l = 2 * l.values.len + 1
