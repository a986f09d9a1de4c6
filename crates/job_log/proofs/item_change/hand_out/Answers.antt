use Rattle.std.proofs.Common.{◌+◌, add-one, ◌∙◌}
use Rattle.engine_history.specs.Items.{at_item, handed_out}
use Rattle.job_log.proofs.ChangedItems.{items_from-next}
use Rattle.job_log.proofs.item_change.hand_out.Goals as goal

pub loop-turn-preserved : goal.loop-turn-preserved
loop-turn-preserved c = record {
  items =
      c.change_item.ensures.items
      ∙ (λ i. at_item (c.from.ensures i + c.from-in-loop-turn.ensures i) handed_out (c.loop-turn.invariant.items i))
      ∙ rw add-one (items_from-next c.args.first c.loop-turn.turn handed_out c.args.items.now.items);
  len = c.change_item.ensures.len ∙ c.loop-turn.invariant.len;
  capacity = c.change_item.ensures.capacity ∙ c.loop-turn.invariant.capacity;
}
