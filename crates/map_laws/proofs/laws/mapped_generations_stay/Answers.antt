use Rattle.map_laws.proofs.LaterLogs.{mapped_generations_stay}
use Rattle.map_laws.proofs.laws.mapped_generations_stay.Goals as goal

pub returns : goal.returns
returns c = mapped_generations_stay
