use Rattle.std.proofs.Common.{◌≡◌, drop}
use Rattle.operation_rules.specs.FirstPlaces.{first_where}
use Rattle.operation_rules.specs.OpRules.{is_undeclared, file_names}
use Rattle.operation_rules.proofs.declared.first_undeclared.Given as goal

abbrev pub invariant-loop-op : goal.invariant-loop-op
invariant-loop-op l = first_where (is_undeclared (file_names l.files)) (drop l.op-index l.ops) ≡ first_where (is_undeclared (file_names l.files)) l.ops
