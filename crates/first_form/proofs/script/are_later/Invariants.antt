use Rattle.std.proofs.Common.{◌↔◌, drop}
use Rattle.first_form.specs.FirstForm.{AreLaterOps}
use Rattle.first_form.proofs.script.are_later.Given as goal

-- it is up to the operations to come
abbrev pub invariant-loop-op : goal.invariant-loop-op
invariant-loop-op l = AreLaterOps l.shape l.ops ↔ AreLaterOps l.shape (drop l.op-index l.ops)
