use Rattle.engine_history.proofs.LongerLogs.{jobs_after-push}
use Rattle.engine_history.proofs.laws.an_entry_changes_what_the_log_leaves.Goals as goal

pub returns : goal.returns
returns c = jobs_after-push
