use Rattle.std.proofs.Common.{arith}
use Rattle.file_core_tests.proofs.PlacedInode.{placement}
use Rattle.file_core_tests.proofs.placements.place_inode.Goals as goal

pub switch-requires-clause-later : goal.switch-requires-clause-later
switch-requires-clause-later g c κs within = let early = c.requires.early in omega (arith, early)

pub switch-requires-clause-legal : goal.switch-requires-clause-legal
switch-requires-clause-legal g c κs within fresh free =
    placement c.args.file.now c.all_up.result c.args.others.group c.new.result c.new-2.result c.requires.shape c.requires.level c.requires.created c.all_up.ensures
    c.requires.group c.new.ensures c.new-2.ensures
