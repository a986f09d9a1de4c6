use Rattle.domains.proofs.LossLemmas.{kept_units-most}
use Rattle.domains.proofs.laws.levels_bear_their_losses.Goals as goal

pub returns : goal.returns
returns c = kept_units-most
