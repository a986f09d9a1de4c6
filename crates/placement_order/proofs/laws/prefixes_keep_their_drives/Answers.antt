use Rattle.placement_order.proofs.PrefixDrives.{prefixes-keep}
use Rattle.placement_order.proofs.laws.prefixes_keep_their_drives.Goals as goal

pub returns : goal.returns
returns c = prefixes-keep
