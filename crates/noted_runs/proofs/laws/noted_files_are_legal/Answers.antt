use Rattle.noted_runs.proofs.NotedEntries.{noted_files_are_legal as proved}
use Rattle.noted_runs.proofs.laws.noted_files_are_legal.Goals as goal

pub returns : goal.returns
returns g c = proved g.S.Slot.content
