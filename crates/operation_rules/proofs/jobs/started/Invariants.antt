use Rattle.std.proofs.Common.{◌≡◌, ◌||◌, ℕ, List, drop}
use Rattle.std.specs.BTreeSet.{contains_text}
use Rattle.operation_rules.specs.OpRules.{has_name, started_in}
use Rattle.operation_rules.proofs.jobs.started.Given as goal

abbrev pub invariant-loop-op : goal.invariant-loop-op
invariant-loop-op l = (q : List ℕ) → (has_name (started_in (drop l.op-index l.ops)) q || contains_text l.names.names q) ≡ has_name (started_in l.ops) q
