use Rattle.serial_order.proofs.OrderLemmas.{calls_of-order}
use Rattle.serial_order.proofs.laws.each_actor_follows_its_script.Goals as goal

pub returns : goal.returns
returns c = calls_of-order
