use Rattle.std.proofs.Common.{◌≡◌, ◌++◌, drop}
use Rattle.checkpoints.specs.Saved.{drives_bytes}
use Rattle.checkpoints.proofs.writing.write_drives.Given as goal

abbrev pub invariant-loop-drive : goal.invariant-loop-drive
invariant-loop-drive l = l.bytes.items ++ drives_bytes (drop l.drive-index l.drives) ≡ l.fn.bytes.items ++ drives_bytes l.drives
