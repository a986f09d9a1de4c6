use Rattle.engine_history.proofs.LegalLogs.{running_at_each_point}
use Rattle.engine_history.proofs.laws.jobs_with_items_out_are_few_and_share_no_set.Goals as goal

pub returns : goal.returns
returns c = running_at_each_point
