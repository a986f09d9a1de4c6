use Rattle.placement_order.proofs.OrderMembers.{prefixes_may_give}
use Rattle.placement_order.proofs.laws.order_may_give.Goals as goal

pub returns : goal.returns
returns c = prefixes_may_give
