use Rattle.placement_order.proofs.RoomFilled.{room_within}
use Rattle.placement_order.proofs.laws.room_is_within_the_level.Goals as goal

pub returns : goal.returns
returns c = room_within
