use Rattle.loss_laws.proofs.BorneLosses.{files_bear}
use Rattle.loss_laws.proofs.files_bear_losses.Goals as goal

pub returns : goal.returns
returns c = files_bear
