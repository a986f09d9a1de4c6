use Rattle.scenario_reader.proofs.CanonicalText.{canonical_spells}
use Rattle.scenario_reader.proofs.laws.canonical_text_spells.Goals as goal

pub returns : goal.returns
returns c = canonical_spells c.canonical_reads_back.ensures
