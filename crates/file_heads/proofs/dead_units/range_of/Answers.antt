use Rattle.file_heads.proofs.DeadUnitLookups.{start_before_end}
use Rattle.file_heads.proofs.dead_units.range_of.Goals as goal

pub returns-clause-ordered : goal.returns-clause-ordered
returns-clause-ordered c = start_before_end c.args.units.now c.args.generation c.start_of.result c.end_of.result c.start_of.ensures c.end_of.ensures
