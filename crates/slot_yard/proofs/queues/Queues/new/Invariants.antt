use Rattle.std.proofs.Common.{◌≡◌, [], replicate, vec_capacity}
use Rattle.slot_yard.proofs.queues.Queues.new.Given as goal

abbrev pub invariant-loop-drive : goal.invariant-loop-drive
invariant-loop-drive g l = record {
  none : l.of_drives.items ≡ replicate l._drive [];
  room : vec_capacity l.of_drives ≡ l.drives;
}
