use Rattle.domains.specs.DriveSet.{has}
use Rattle.plain_file.proofs.MirrorRoom.{room_of_one}
use Rattle.plain_file.proofs.drives.mirror_drives.Goals as goal

pub returns-in_default-next_drive-clause-none : goal.returns-in_default-next_drive-clause-none
returns-in_default-next_drive-clause-none c =
    room_of_one c.args.shape (has c.args.up.now) c.node.result c.in_default-next_drive.ensures.none
