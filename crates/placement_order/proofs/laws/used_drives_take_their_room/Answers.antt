use Rattle.placement_order.proofs.RoomFilled.{used-take_room}
use Rattle.placement_order.proofs.laws.used_drives_take_their_room.Goals as goal

pub returns : goal.returns
returns c = used-take_room
