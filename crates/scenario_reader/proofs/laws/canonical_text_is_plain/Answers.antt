use Rattle.scenario_reader.proofs.CanonicalText.{canonical_plain}
use Rattle.scenario_reader.proofs.laws.canonical_text_is_plain.Goals as goal

pub returns : goal.returns
returns c = λ text s spells. canonical_plain text s spells
