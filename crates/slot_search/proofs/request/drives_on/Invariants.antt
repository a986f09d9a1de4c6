use Rattle.std.proofs.Common.{◌≡◌, ◌≤◌}
use Rattle.domains.specs.DriveSet.{has}
use Rattle.domains.specs.Room.{drives_on}
use Rattle.slot_search.proofs.request.drives_on.Given as goal

-- the drives so far that are in the set
abbrev pub invariant-loop-drive : goal.invariant-loop-drive
invariant-loop-drive l = record {
  value : l.count ≡ drives_on l.drive l.fn.node (has l.drives);
  within : l.count ≤ l.drive;
}
