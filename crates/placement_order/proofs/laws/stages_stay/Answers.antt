use Rattle.placement_order.proofs.StageLemmas.{stages-stay}
use Rattle.placement_order.proofs.laws.stages_stay.Goals as goal

pub returns : goal.returns
returns c = stages-stay
