use Rattle.std.proofs.Common.{◌≡◌, ◌≤◌, ◌+◌, ◌++◌, length, vec_len, vec_capacity}
use Rattle.slot_yard.proofs.queue.Queue.move_to.Given as goal

abbrev pub invariant-loop-held : goal.invariant-loop-held
invariant-loop-held g l = record {
  moved : l.initial.to.items ++ l.initial.self-inside.slots.items ≡ l.to.items ++ l.self-inside.slots.items;
  fits : vec_len l.to + length l.self-inside.slots.items ≤ vec_capacity l.to;
  room : vec_capacity l.to ≡ vec_capacity l.initial.to;
}

abbrev pub decreases-loop-held : goal.decreases-loop-held
decreases-loop-held g l = length l.self-inside.slots.items
