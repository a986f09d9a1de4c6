use Rattle.std.proofs.Common.{◌≡◌, ◌+◌, ◌≤◌, drop}
use Rattle.first_form.specs.FirstForm.{write_count}
use Rattle.first_form.proofs.script.write_count.Given as goal

-- the writes so far and those to come
abbrev pub invariant-loop-op : goal.invariant-loop-op
invariant-loop-op l = record {
  value : l.count + write_count (drop l.op-index l.ops) ≡ write_count l.ops;
  within : l.count ≤ l.op-index;
}
