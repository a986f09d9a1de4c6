use Rattle.std.proofs.Common.{◌≡◌, ◌+◌, ◌*◌, ◌≤◌, drop}
use Rattle.first_form.specs.FirstForm.{read_bytes}
use Rattle.first_form.proofs.script.read_bytes.Given as goal

-- the reads so far and those to come
abbrev pub invariant-loop-op : goal.invariant-loop-op
invariant-loop-op l = record {
  value : l.total + read_bytes (drop l.op-index l.ops) ≡ read_bytes l.ops;
  within : l.total ≤ l.op-index * 4294967296;
}
