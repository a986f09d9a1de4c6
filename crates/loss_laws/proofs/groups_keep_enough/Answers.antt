use Rattle.loss_laws.proofs.BorneLosses.{keep_enough}
use Rattle.loss_laws.proofs.groups_keep_enough.Goals as goal

pub returns : goal.returns
returns c = keep_enough
