use Rattle.std.proofs.Common.{◌≡◌, ◌≤◌, drop}
use Rattle.operation_rules.specs.FirstPlaces.{first_past}
use Rattle.operation_rules.proofs.lengths.first_too_long.Given as goal

abbrev pub invariant-loop-op : goal.invariant-loop-op
invariant-loop-op l = record { value : first_past (drop l.op-index l.ops) l.reads l.writes ≡ first_past l.ops 0 0; few_reads : l.reads ≤ 16777216; few_writes : l.writes ≤ 268435456 }
