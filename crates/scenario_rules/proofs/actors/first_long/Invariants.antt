use Rattle.std.proofs.Common.{◌≡◌, ◌+◌, drop}
use Rattle.scenario_rules.specs.Actors.{first_long}
use Rattle.scenario_rules.proofs.actors.first_long.Given as goal

abbrev pub invariant-loop-ops : goal.invariant-loop-ops
invariant-loop-ops l = record {
  value : first_long (drop l.ops-index l.actors) l.actor ≡ first_long l.actors 1;
  number : l.actor ≡ l.ops-index + 1;
}
