use Rattle.std.proofs.Common.{◌≡◌, ◌≤◌, drop}
use Rattle.engine_core.proofs.TaskLemmas.{RunsOn}
use Rattle.engine_core.proofs.serving.run_of.Given as goal

abbrev pub invariant-loop-item : goal.invariant-loop-item
invariant-loop-item l = record { count : l.count ≤ l.most; same : l.count ≡ l.item-index; run : RunsOn l.most l.count (drop l.item-index l.items) l.items }
