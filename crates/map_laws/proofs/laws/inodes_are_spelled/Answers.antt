use Rattle.map_laws.proofs.LaterLogs.{inodes_are_spelled}
use Rattle.map_laws.proofs.laws.inodes_are_spelled.Goals as goal

pub returns : goal.returns
returns c = inodes_are_spelled
