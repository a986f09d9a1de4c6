use Rattle.std.proofs.Common.{◌≡◌, vec_capacity, vec_len}
use Rattle.engine_history.specs.Items.{new_items}
use Rattle.job_log.proofs.item_change.renew.Given as goal

abbrev pub invariant-loop-item : goal.invariant-loop-item
invariant-loop-item l = record {
  items : l.items.items ≡ new_items l._item;
  len : vec_len l.items ≡ l._item;
  capacity : vec_capacity l.items ≡ vec_capacity l.fn.items;
}
