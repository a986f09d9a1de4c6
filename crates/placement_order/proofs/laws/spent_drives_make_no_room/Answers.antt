use Rattle.placement_order.proofs.RoomFilled.{spent-drives}
use Rattle.placement_order.proofs.laws.spent_drives_make_no_room.Goals as goal

pub returns : goal.returns
returns c = spent-drives
