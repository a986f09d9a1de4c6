use Rattle.placement_order.proofs.RoomFilled.{prefixes-whole}
use Rattle.placement_order.proofs.laws.prefixes_are_whole.Goals as goal

pub returns : goal.returns
returns c = prefixes-whole
