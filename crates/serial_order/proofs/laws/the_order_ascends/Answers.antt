use Rattle.serial_order.proofs.OrderLemmas.{order-ascends}
use Rattle.serial_order.proofs.laws.the_order_ascends.Goals as goal

pub returns : goal.returns
returns c = order-ascends
