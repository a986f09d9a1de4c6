use Rattle.std.proofs.Common.{◌≡◌, drop}
use Rattle.operation_rules.specs.FirstPlaces.{first_where}
use Rattle.operation_rules.specs.OpRules.{is_outside}
use Rattle.operation_rules.proofs.outside.first_outside.Given as goal

abbrev pub invariant-loop-op : goal.invariant-loop-op
invariant-loop-op l = first_where (is_outside l.shape) (drop l.op-index l.ops) ≡ first_where (is_outside l.shape) l.ops
