use Rattle.write_rule.proofs.RunLemmas.{affected_are_runs}
use Rattle.write_rule.proofs.laws.affected_are_runs.Goals as goal

pub returns : goal.returns
returns c = affected_are_runs
