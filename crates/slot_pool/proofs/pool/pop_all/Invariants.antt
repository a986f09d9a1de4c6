use Rattle.std.proofs.Common.{◌≡◌, ◌≤◌, ◌+◌, ◌++◌, reverse, vec_len, vec_capacity}
use Rattle.slot_pool.proofs.pool.pop_all.Given as goal

abbrev pub invariant-loop-slot : goal.invariant-loop-slot
invariant-loop-slot g l = record {
  turned : l.initial.all.items ++ reverse l.initial.free.items ≡ l.all.items ++ reverse l.free.items;
  fits : vec_len l.all + vec_len l.free ≤ vec_capacity l.all;
  room : vec_capacity l.all ≡ vec_capacity l.initial.all;
  capacity : vec_capacity l.free ≡ vec_capacity l.initial.free;
}

abbrev pub decreases-loop-slot : goal.decreases-loop-slot
decreases-loop-slot g l = vec_len l.free
