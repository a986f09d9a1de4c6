use Rattle.std.proofs.Common.{◌≡◌, ◌++◌, drop, string_bytes}
use Rattle.operation_rules.specs.OpRules.{file_names}
use Rattle.whole_scenario.specs.Canonical.{op_lines}
use Rattle.whole_scenario.proofs.canonical.write_ops.Given as goal

-- what is written and the lines to come
abbrev pub invariant-loop-op : goal.invariant-loop-op
invariant-loop-op l =
    string_bytes l.text ++ op_lines (file_names l.files) l.jobs (drop l.op-index l.ops) ≡ string_bytes l.fn.text ++ op_lines (file_names l.files) l.jobs l.ops
