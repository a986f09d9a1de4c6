use Rattle.map_laws.proofs.LaterLogs.{mapped_groups_keep_bytes}
use Rattle.map_laws.proofs.laws.mapped_groups_keep_bytes.Goals as goal

pub returns : goal.returns
returns c = mapped_groups_keep_bytes
