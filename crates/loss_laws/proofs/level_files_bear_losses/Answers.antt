use Rattle.loss_laws.proofs.BorneLosses.{level_files_bear}
use Rattle.loss_laws.proofs.level_files_bear_losses.Goals as goal

pub returns : goal.returns
returns c = level_files_bear
