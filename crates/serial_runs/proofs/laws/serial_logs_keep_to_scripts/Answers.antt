use Rattle.serial_runs.proofs.SerialScripts.{serial_logs_keep}
use Rattle.serial_runs.proofs.laws.serial_logs_keep_to_scripts.Goals as goal

pub returns : goal.returns
returns c = serial_logs_keep
