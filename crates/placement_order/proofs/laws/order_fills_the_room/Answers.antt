use Rattle.placement_order.proofs.RoomFilled.{order-fills}
use Rattle.placement_order.proofs.laws.order_fills_the_room.Goals as goal

pub returns : goal.returns
returns c = order-fills
