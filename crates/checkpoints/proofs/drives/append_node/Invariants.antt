use Rattle.std.proofs.Common.{◌≡◌, ◌++◌}
use Rattle.std.specs.List.{filter}
use Rattle.domains.specs.DriveSet.{has}
use Rattle.checkpoints.specs.Saved.{drives_on}
use Rattle.checkpoints.proofs.drives.append_node.Given as goal

abbrev pub invariant-loop-number : goal.invariant-loop-number
invariant-loop-number l = l.drives.items ≡ l.fn.drives.items ++ filter (has l.set) (drives_on l.node l.number)
