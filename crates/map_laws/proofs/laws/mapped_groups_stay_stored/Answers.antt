use Rattle.map_laws.proofs.LaterLogs.{mapped_groups_stay_stored}
use Rattle.map_laws.proofs.laws.mapped_groups_stay_stored.Goals as goal

pub returns : goal.returns
returns c = mapped_groups_stay_stored
