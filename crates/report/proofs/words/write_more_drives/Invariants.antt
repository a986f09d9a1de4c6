use Rattle.std.proofs.Common.{◌≡◌, ◌++◌, drop, string_bytes}
use Rattle.report.specs.Words.{more_drives}
use Rattle.report.proofs.words.write_more_drives.Given as goal

-- what is written and what is to come
abbrev pub invariant-loop-drive : goal.invariant-loop-drive
invariant-loop-drive l = string_bytes l.text ++ more_drives (drop l.drive-index l.drives) ≡ string_bytes l.fn.text ++ more_drives l.drives
