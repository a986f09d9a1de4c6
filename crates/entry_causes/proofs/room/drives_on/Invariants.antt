use Rattle.std.proofs.Common.{◌≡◌, ◌≤◌}
use Rattle.domains.specs.Room.{drives_on}
use Rattle.domains.specs.DriveSet.{has}
use Rattle.entry_causes.proofs.room.drives_on.Given as goal

-- the usable drives so far
abbrev pub invariant-loop-drive : goal.invariant-loop-drive
invariant-loop-drive l = record {
  value : l.count ≡ drives_on l.drive l.fn.node (has l.usable);
  within : l.count ≤ l.drive;
}
