use Rattle.std.proofs.Common.{◌≡◌, ◌≤◌, ◌+◌, ◌++◌, reverse, vec_len, vec_capacity}
use Rattle.placement.proofs.place_call.take_down.Given as goal

-- the slots so far are moved
abbrev pub invariant-loop-held : goal.invariant-loop-held
invariant-loop-held g l = record {
  turned : l.initial.to.items ++ reverse l.initial.from.items ≡ l.to.items ++ reverse l.from.items;
  fits : vec_len l.to + vec_len l.from ≤ vec_capacity l.to;
  from : vec_capacity l.from ≡ vec_capacity l.initial.from;
  to : vec_capacity l.to ≡ vec_capacity l.initial.to;
}

abbrev pub decreases-loop-held : goal.decreases-loop-held
decreases-loop-held g l = vec_len l.from
