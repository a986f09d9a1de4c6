use Rattle.std.proofs.Common.{◌≡◌, ◌≤◌, ◌*◌, length}
use Rattle.std.specs.List.{filter}
use Rattle.domains.specs.DriveSet.{has}
use Rattle.checkpoints.specs.Saved.{drives_up_to}
use Rattle.job_log.proofs.bars.count_of.Given as goal

abbrev pub invariant-loop-node : goal.invariant-loop-node
invariant-loop-node l = record {
  counted : l.count ≡ length (filter (has l.set) (drives_up_to l.node));
  few : l.count ≤ l.node * 16;
}
