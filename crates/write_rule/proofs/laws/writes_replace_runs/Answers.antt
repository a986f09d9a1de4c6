use Rattle.write_rule.proofs.RunLemmas.{writes_replace_runs}
use Rattle.write_rule.proofs.laws.writes_replace_runs.Goals as goal

pub returns : goal.returns
returns c = writes_replace_runs
