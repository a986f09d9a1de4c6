use Rattle.std.proofs.Common.{◌≡◌, ℕ, ◌<◌, ◌≤◌, false}
use Rattle.domains.specs.DriveSet.{has}
use Rattle.plain_file.proofs.drives.drive_between.Given as goal

-- no drive so far is up
abbrev pub invariant-loop-index : goal.invariant-loop-index
invariant-loop-index l = (drive : ℕ) → l.fn.from < drive → drive ≤ l.index → has l.up (record { node = l.fn.node; drive = drive }) ≡ false
