use Rattle.std.proofs.Common.{◌≡◌, [], replicate}
use Rattle.scenario_reader.proofs.scripts.empty_scripts.Given as goal

abbrev pub invariant-loop-actor : goal.invariant-loop-actor
invariant-loop-actor l = l.scripts.items ≡ replicate l._actor []
