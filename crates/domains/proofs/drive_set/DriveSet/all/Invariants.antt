use Rattle.std.proofs.Common.{◌≡◌, length}
use Rattle.domains.proofs.DriveSetLemmas.{AreWhole}
use Rattle.domains.proofs.drive_set.DriveSet.all.Given as goal

-- the nodes so far have their words
abbrev pub invariant-loop-node : goal.invariant-loop-node
invariant-loop-node l = record {
  words : length l.nodes ≡ 32;
  whole : AreWhole l.fn.shape l.node l.nodes;
}
