use Rattle.std.proofs.Common.{◌≡◌, drop}
use Rattle.operation_rules.specs.FirstPlaces.{first_where}
use Rattle.operation_rules.specs.OpRules.{is_unbuilt}
use Rattle.operation_rules.proofs.unbuilt.first_unbuilt.Given as goal

abbrev pub invariant-loop-op : goal.invariant-loop-op
invariant-loop-op l = first_where is_unbuilt (drop l.op-index l.ops) ≡ first_where is_unbuilt l.ops
