use Rattle.map_changes.proofs.InodeLengths.{inodes_fit_slots}
use Rattle.map_changes.proofs.laws.inodes_fit_slots.Goals as goal

pub returns : goal.returns
returns c = inodes_fit_slots
