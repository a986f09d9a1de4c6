use Rattle.std.proofs.Common.{◌≡◌, length, vec_capacity}
use Rattle.engine_history.specs.Items.{handed_out, items_from}
use Rattle.job_log.proofs.item_change.hand_out.Given as goal

abbrev pub invariant-loop-turn : goal.invariant-loop-turn
invariant-loop-turn l = record {
  items : l.items.items ≡ items_from l.first l.turn handed_out l.fn.items.items;
  len : length l.items.items ≡ length l.fn.items.items;
  capacity : vec_capacity l.items ≡ vec_capacity l.fn.items;
}
