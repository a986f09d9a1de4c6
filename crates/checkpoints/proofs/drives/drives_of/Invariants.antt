use Rattle.std.proofs.Common.{◌≡◌}
use Rattle.std.specs.List.{filter}
use Rattle.domains.specs.DriveSet.{has}
use Rattle.checkpoints.specs.Saved.{drives_up_to}
use Rattle.checkpoints.proofs.drives.drives_of.Given as goal

abbrev pub invariant-loop-node : goal.invariant-loop-node
invariant-loop-node l = l.drives.items ≡ filter (has l.set) (drives_up_to l.node)
