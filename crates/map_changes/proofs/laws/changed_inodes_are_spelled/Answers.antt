use Rattle.map_changes.proofs.ChangedInodes.{changed_inodes_are_spelled}
use Rattle.map_changes.proofs.laws.changed_inodes_are_spelled.Goals as goal

pub returns : goal.returns
returns c = changed_inodes_are_spelled
