use Rattle.placement_order.proofs.OrderComplete.{order-complete}
use Rattle.placement_order.proofs.laws.order_is_complete.Goals as goal

pub returns : goal.returns
returns c = order-complete
