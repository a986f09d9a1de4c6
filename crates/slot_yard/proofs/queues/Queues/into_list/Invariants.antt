use Rattle.std.proofs.Common.{◌≡◌, ◌≤◌, ◌+◌, ◌++◌, reverse, vec_len, vec_capacity}
use Rattle.slot_yard.specs.Queues.{by_drive, waiting_in}
use Rattle.slot_yard.proofs.queues.Queues.into_list.Given as goal

abbrev pub invariant-loop-queue : goal.invariant-loop-queue
invariant-loop-queue g l = record {
  all : by_drive l.fn.self ≡ l.room.items ++ by_drive (reverse l.of_drives.items);
  fits : vec_len l.room + waiting_in l.of_drives.items ≤ vec_capacity l.room;
}

abbrev pub decreases-loop-queue : goal.decreases-loop-queue
decreases-loop-queue g l = vec_len l.of_drives
