-- What the text of logs tells.
use Rattle.std.specs.Prelude.{◌≡◌}
use Rattle.whole_report.specs.Printed.{printed}
use Rattle.whole_report.specs.WrongLine.{FitsReport}
use Rattle.whole_report.specs.declared.logs.Logs.{Logs}

-- two logs with the same text are the same
abbrev pub TextsTellLogs : Type 0
TextsTellLogs = (a b : Logs) → FitsReport a → FitsReport b → printed a ≡ printed b → a ≡ b
