use Rattle.write_rule.proofs.ChunkCounts.{writes_keep_units}
use Rattle.write_rule.proofs.laws.writes_keep_units.Goals as goal

pub returns : goal.returns
returns c = writes_keep_units
