use Rattle.write_units.proofs.RunRanges.{runs_hold_writes}
use Rattle.write_units.proofs.laws.runs_hold_writes.Goals as goal

pub returns : goal.returns
returns c = runs_hold_writes
