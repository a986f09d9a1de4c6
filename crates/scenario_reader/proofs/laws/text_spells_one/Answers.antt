use Rattle.scenario_reader.proofs.OneScenario.{scenario_same}
use Rattle.scenario_reader.proofs.laws.text_spells_one.Goals as goal

pub returns : goal.returns
returns c = λ text s t one other. scenario_same text one.named s t one.spells one.is other
