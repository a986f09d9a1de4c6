use Rattle.write_units.proofs.CoveredRuns.{needed_cover_runs}
use Rattle.write_units.proofs.laws.needed_groups_cover_runs.Goals as goal

pub returns : goal.returns
returns c = needed_cover_runs c.affected_are_runs.ensures
