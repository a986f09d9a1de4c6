use Rattle.std.proofs.Common.{◌≡◌, ◌≤◌, drop}
use Rattle.operation_rules.specs.FirstPlaces.{first_start_past}
use Rattle.operation_rules.proofs.jobs.first_start_too_many.Given as goal

abbrev pub invariant-loop-op : goal.invariant-loop-op
invariant-loop-op l = record { value : first_start_past (drop l.op-index l.ops) l.count ≡ first_start_past l.ops 0; few : l.count ≤ 64 }
