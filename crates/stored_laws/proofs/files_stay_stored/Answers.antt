use Rattle.stored_laws.proofs.StoredLogs.{files_stay_stored}
use Rattle.stored_laws.proofs.files_stay_stored.Goals as goal

pub returns : goal.returns
returns c = files_stay_stored
