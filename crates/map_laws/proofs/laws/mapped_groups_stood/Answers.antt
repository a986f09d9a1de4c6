use Rattle.map_laws.proofs.LaterLogs.{mapped_groups_stood}
use Rattle.map_laws.proofs.laws.mapped_groups_stood.Goals as goal

pub returns : goal.returns
returns c = mapped_groups_stood
