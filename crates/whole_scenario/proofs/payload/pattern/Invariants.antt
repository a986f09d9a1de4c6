use Rattle.std.proofs.Common.{◌≡◌}
use Rattle.whole_scenario.specs.Payloads.{pattern}
use Rattle.whole_scenario.proofs.payload.pattern.Given as goal

abbrev pub invariant-loop-place : goal.invariant-loop-place
invariant-loop-place l = l.bytes.items ≡ pattern l.start l.place
