use Rattle.placement_order.proofs.PrefixDrives.{whole-prefixes}
use Rattle.placement_order.proofs.laws.whole_prefixes_are_the_order.Goals as goal

pub returns : goal.returns
returns c = whole-prefixes
