use Rattle.std.proofs.Common.{arith}
use Rattle.domains.specs.DriveSet.{has}
use Rattle.plain_file.proofs.MirrorRoom.{drives_on_none}
use Rattle.plain_file.proofs.drives.drive_of_node.Goals as goal

pub returns-clause-none : goal.returns-clause-none
returns-clause-none c =
    drives_on_none c.args.shape.drives c.args.first c.args.node (has c.args.up.now)
    (λ d behind within. c.in_default.ensures.none d behind (omega arith)) c.in_default-drive_between.ensures.none
