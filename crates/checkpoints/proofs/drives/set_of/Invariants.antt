use Rattle.std.proofs.Common.{◌≡◌, take}
use Rattle.std.specs.List.{list_any}
use Rattle.domains.specs.Drive.{Drive, IsDrive, same_drive}
use Rattle.domains.specs.DriveSet.{has}
use Rattle.checkpoints.proofs.drives.set_of.Given as goal

abbrev pub invariant-loop-drive : goal.invariant-loop-drive
invariant-loop-drive l = (d : Drive) → IsDrive d → has l.set d ≡ list_any (same_drive d) (take l.drive-index l.drives)
