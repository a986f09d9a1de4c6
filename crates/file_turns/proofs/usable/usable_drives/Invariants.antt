use Rattle.std.proofs.Common.{◌≡◌}
use Rattle.domains.specs.Drive.{Drive, IsDrive}
use Rattle.domains.specs.DriveSet.{has}
use Rattle.file_turns.proofs.UsableDrives.{removed_before}
use Rattle.file_turns.proofs.usable.usable_drives.Given as goal

-- the barred drives so far are removed
abbrev pub invariant-loop-rank : goal.invariant-loop-rank
invariant-loop-rank l = (d : Drive) → IsDrive d → has l.usable d ≡ removed_before l.fn.up l.fn.barred l.rank d
