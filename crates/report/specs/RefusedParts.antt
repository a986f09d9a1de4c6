-- The two parts of a refusal's line: the operation, and why it was refused.
use Rattle.std.specs.Prelude.{codes, ℕ, List, ◌++◌}
use Rattle.std.specs.Fmt.{decimal}
use Rattle.domains.specs.Level.{Level, level_name}
use Rattle.file_history.specs.declared.entry.Refused.{Refused}
use Rattle.file_history.specs.declared.entry.Refused.TheVariants as refused
use Rattle.report.specs.Words.{drives_text}
use Rattle.report.specs.FileLines.{create_text, range_text}

-- the operation that was refused, of a file that was declared with this level
unfoldable pub operation_text : Level → Refused → List ℕ
operation_text declared refused.CreateExists = create_text declared
operation_text declared (refused.CreateTooFew fault) = create_text declared
operation_text declared (refused.CreateNoRoom need got drives) = create_text declared
operation_text declared refused.DeleteAbsent = codes "delete"
operation_text declared (refused.WriteAbsent offset len) = range_text (codes "write") offset len
operation_text declared (refused.WriteTooFew offset len fault) = range_text (codes "write") offset len
operation_text declared (refused.WriteTooLong offset len count) = range_text (codes "write") offset len
operation_text declared (refused.WriteLost offset len lost) = range_text (codes "write") offset len
operation_text declared (refused.WriteNoRoom offset len need got drives) = range_text (codes "write") offset len
operation_text declared (refused.ReadAbsent offset len) = range_text (codes "read") offset len
operation_text declared (refused.ReadLost offset len lost) = range_text (codes "read") offset len
operation_text declared (refused.LevelAbsent level) = codes "level " ++ level_name level

-- why it was refused
unfoldable pub reason_text : Refused → List ℕ
reason_text refused.CreateExists = codes "exists"
reason_text (refused.CreateTooFew fault) = codes "toofew " ++ decimal fault.have ++ codes " " ++ decimal fault.need
reason_text (refused.CreateNoRoom need got drives) = codes "noroom " ++ decimal need ++ codes " " ++ decimal got ++ codes " " ++ drives_text drives
reason_text refused.DeleteAbsent = codes "absent"
reason_text (refused.WriteAbsent offset len) = codes "absent"
reason_text (refused.WriteTooFew offset len fault) = codes "toofew " ++ decimal fault.have ++ codes " " ++ decimal fault.need
reason_text (refused.WriteTooLong offset len count) = codes "toolong " ++ decimal count
reason_text (refused.WriteLost offset len lost) = codes "lost " ++ decimal lost.generation ++ codes " " ++ decimal lost.have ++ codes " " ++ decimal lost.need
reason_text (refused.WriteNoRoom offset len need got drives) = codes "noroom " ++ decimal need ++ codes " " ++ decimal got ++ codes " " ++ drives_text drives
reason_text (refused.ReadAbsent offset len) = codes "absent"
reason_text (refused.ReadLost offset len lost) = codes "lost " ++ decimal lost.generation ++ codes " " ++ decimal lost.have ++ codes " " ++ decimal lost.need
reason_text (refused.LevelAbsent level) = codes "absent"
