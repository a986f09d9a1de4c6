use Rattle.std.proofs.Common.{◌≡◌, ◌++◌, drop}
use Rattle.flex_io.specs.RackCalls.{writes_at}
use Rattle.flex_io.proofs.memory_rack.writes_of.Given as goal

-- what was copied and what is left to look at make all
abbrev pub invariant-loop-fail : goal.invariant-loop-fail
invariant-loop-fail l = l.writes.items ++ writes_at l.place (drop l.fail-index l.plan) ≡ writes_at l.place l.fn.plan
