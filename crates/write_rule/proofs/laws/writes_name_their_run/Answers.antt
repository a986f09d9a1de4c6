use Rattle.write_rule.proofs.NamedRuns.{writes_name_their_run}
use Rattle.write_rule.proofs.laws.writes_name_their_run.Goals as goal

pub returns : goal.returns
returns c = writes_name_their_run
