-- The text of a run's logs.
use Rattle.std.specs.Prelude.{codes, ℕ, List, ◌++◌}
use Rattle.report.specs.Printed.{board_block, file_blocks}
use Rattle.report.specs.Words.{line_feed}
use Rattle.whole_scenario.specs.Canonical.{canonical_text}
use Rattle.whole_report.specs.declared.logs.Logs.{Logs}

-- the report: the scenario, the entries of the board, of the engine, which has none yet, and of each file
unfoldable pub printed : Logs → List ℕ
printed logs =
    codes "report 1" ++ line_feed ++ canonical_text logs.scenario ++ board_block logs.board
    ++ codes "engine 0" ++ line_feed ++ file_blocks logs.scenario.files logs.files ++ codes "end" ++ line_feed
