use Rattle.std.proofs.Common.{◌≡◌, ◌≢◌, ℕ, ◌<◌, ◌≤◌}
use Rattle.domains.specs.DriveSet.{has}
use Rattle.domains.specs.Room.{drives_on}
use Rattle.plain_file.proofs.drives.drive_among.Given as goal

-- no node so far, but for the other, has a drive that is up
abbrev pub invariant-loop-index : goal.invariant-loop-index
invariant-loop-index l = (node : ℕ) → l.fn.from < node → node ≤ l.index → node ≢ l.other → drives_on l.shape.drives node (has l.up) ≡ 0
