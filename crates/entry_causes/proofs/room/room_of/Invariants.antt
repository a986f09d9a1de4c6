use Rattle.std.proofs.Common.{◌≡◌, ◌*◌, ◌≤◌}
use Rattle.domains.specs.Room.{room_up_to}
use Rattle.domains.specs.DriveSet.{has}
use Rattle.entry_causes.proofs.room.room_of.Given as goal

-- the room on the nodes so far
abbrev pub invariant-loop-node : goal.invariant-loop-node
invariant-loop-node l = record {
  value : l.room ≡ room_up_to l.node l.level l.shape (has l.usable);
  within : l.room ≤ 16 * l.node;
}
