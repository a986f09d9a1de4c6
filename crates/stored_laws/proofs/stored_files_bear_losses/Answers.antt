use Rattle.stored_laws.proofs.StoredLogs.{stored_files_bear_losses}
use Rattle.stored_laws.proofs.stored_files_bear_losses.Goals as goal

pub returns : goal.returns
returns c = stored_files_bear_losses
