use Rattle.scenario_table.proofs.TableLines.{reads_back}
use Rattle.scenario_table.proofs.laws.canonical_reads_back.Goals as goal

pub returns : goal.returns
returns c n files actors h = reads_back n files actors h
