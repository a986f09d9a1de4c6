use Rattle.std.proofs.Common.{◌≡◌, ◌++◌, drop, string_bytes}
use Rattle.scenario.specs.Canonical.{op_lines}
use Rattle.scenario.proofs.canonical.write_ops.Given as goal

-- what is written and the lines to come
abbrev pub invariant-loop-op : goal.invariant-loop-op
invariant-loop-op l = string_bytes l.text ++ op_lines l.files (drop l.op-index l.ops) ≡ string_bytes l.fn.text ++ op_lines l.files l.ops
