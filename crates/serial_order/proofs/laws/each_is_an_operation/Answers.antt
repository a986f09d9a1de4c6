use Rattle.serial_order.proofs.OrderLemmas.{order-operations}
use Rattle.serial_order.proofs.laws.each_is_an_operation.Goals as goal

pub returns : goal.returns
returns c = order-operations
