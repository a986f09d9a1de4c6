use Rattle.std.proofs.Common.{◌≡◌, ◌≤◌, ◌+◌, drop}
use Rattle.engine_history.specs.Items.{count_out}
use Rattle.job_log.proofs.item_change.count_out.Given as goal

abbrev pub invariant-loop-item : goal.invariant-loop-item
invariant-loop-item l = record {
  counted : l.out + count_out (drop l.item-index l.items) ≡ count_out l.items;
  few : l.out ≤ l.item-index;
}
