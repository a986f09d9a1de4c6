use Rattle.std.proofs.Common.{◌≡◌, ◌||◌}
use Rattle.domains.specs.Drive.{Drive, IsDrive}
use Rattle.domains.specs.DriveSet.{has}
use Rattle.file_heads.proofs.DriveSetUnion.{is_before}
use Rattle.file_heads.proofs.head.add_drives.Given as goal

-- the drives so far are added
abbrev pub invariant-loop-rank : goal.invariant-loop-rank
invariant-loop-rank l = (d : Drive) → IsDrive d → has l.set d ≡ (has l.fn.set d || is_before l.fn.drives l.rank d)
