use Rattle.file_history.proofs.RootedLayouts.{layout_rooted}
use Rattle.file_history.proofs.laws.layouts_are_rooted.Goals as goal

pub returns : goal.returns
returns c = layout_rooted
