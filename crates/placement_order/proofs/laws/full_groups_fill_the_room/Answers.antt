use Rattle.placement_order.proofs.RoomFilled.{full-fills}
use Rattle.placement_order.proofs.laws.full_groups_fill_the_room.Goals as goal

pub returns : goal.returns
returns c = full-fills
