use Rattle.placement_order.proofs.RoomFilled.{new-groups}
use Rattle.placement_order.proofs.laws.new_groups_find_the_room.Goals as goal

pub returns : goal.returns
returns c = new-groups
