use Rattle.file_history.proofs.DeterminedByLiveUnits.{determined}
use Rattle.file_history.proofs.laws.live_units_determine.Goals as goal

pub returns : goal.returns
returns c = determined
