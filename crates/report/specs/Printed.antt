-- The text of a run's logs.
use Rattle.std.specs.Prelude.{codes, ℕ, List, [], ◌∷◌, ◌++◌, length}
use Rattle.std.specs.Fmt.{decimal}
use Rattle.scenario.specs.Canonical.{canonical_text}
use Rattle.scenario.specs.declared.scenario.FileDecl.{FileDecl}
use Rattle.board_history.specs.declared.entry.BoardEntry.{BoardEntry}
use Rattle.file_history.specs.declared.entry.FileEntry.{FileEntry}
use Rattle.report.specs.Words.{line_feed}
use Rattle.report.specs.BoardLines.{board_lines}
use Rattle.report.specs.FileLines.{file_lines}
use Rattle.report.specs.declared.logs.Logs.{Logs}

-- the board's entries, after their number
unfoldable pub board_block : List BoardEntry → List ℕ
board_block log = codes "board " ++ decimal (length log) ++ line_feed ++ board_lines log

-- a file's entries, after its name and their number
unfoldable pub file_block : FileDecl → List FileEntry → List ℕ
file_block f log = codes "file " ++ f.name ++ codes " " ++ decimal (length log) ++ line_feed ++ file_lines f.level log

-- the block of each file that has a log
abbrev pub file_blocks : List FileDecl → List (List FileEntry) → List ℕ
file_blocks [] logs = []
file_blocks (f ∷ fs) [] = []
file_blocks (f ∷ fs) (log ∷ logs) = file_block f log ++ file_blocks fs logs

-- the report: the scenario, the entries of the board, of the engine, which has none yet, and of each file
unfoldable pub printed : Logs → List ℕ
printed logs =
    codes "report 1" ++ line_feed ++ canonical_text logs.scenario ++ board_block logs.board
    ++ codes "engine 0" ++ line_feed ++ file_blocks logs.scenario.files logs.files ++ codes "end" ++ line_feed
