use Rattle.placement_order.proofs.PrefixDrives.{replacements-of}
use Rattle.placement_order.proofs.laws.replacements_are_of_the_prefix.Goals as goal

pub returns : goal.returns
returns c = replacements-of
