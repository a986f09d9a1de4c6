use Rattle.placement_order.proofs.OrderByRounds.{order-by_turns}
use Rattle.placement_order.proofs.laws.order_is_by_turns.Goals as goal

pub returns : goal.returns
returns c = order-by_turns
