-- The logs that print a text, and the first wrong line of a text that none print.
use Rattle.std.specs.Prelude.{◌≡◌, ◌⊎◌, ℕ, suc, List, ◌++◌}
use Rattle.report_blocks.specs.Blocks.{AreLogs}
use Rattle.report_blocks.specs.Fronts.{FailsAt}
use Rattle.report_blocks.specs.WrongLine.{IsBoardNext, LacksFirst, feeds, first_line}
use Rattle.report_blocks.specs.declared.whole_report.ReportFault.{ReportFault}
use Rattle.report_blocks.specs.declared.whole_report.ReportFault.TheVariants as fault
use Rattle.whole_scenario.specs.Canonical.{canonical_text}
use Rattle.whole_scenario.specs.declared.whole.Scenario.{Scenario}
use Rattle.whole_report.specs.Printed.{printed}
use Rattle.whole_report.specs.ScenarioLines.{IsScenario}
use Rattle.whole_report.specs.declared.logs.Logs.{Logs}

-- A report can hold the logs: the scenario keeps all rules, the board and each file have a log, and each entry is of the code's
-- types and of a kind that has a line.
pub record FitsReport (l : Logs) : Type 0 where
  pub scenario : IsScenario l.scenario
  pub logs : AreLogs l.scenario.files (l.board, l.files)

-- The lines from the second to the one before the first that begins with `board `, or to the last, are the canonical text of
-- the scenario (which has no line that begins so); the rest stands behind them.
pub record IsHeaded (s : Scenario) (text rest : List ℕ) : Type 0 where
  pub is : text ≡ first_line ++ (canonical_text s ++ rest)
  pub next : IsBoardNext rest

-- the first line is `report 1`, and the lines of no scenario follow
pub record LacksScenario (text : List ℕ) (line : ℕ) : Type 0 where
  pub two : line ≡ 2
  pub rest : List ℕ
  pub is : text ≡ first_line ++ rest
  pub none : (s : Scenario) (behind : List ℕ) → IsScenario s → IsHeaded s text behind → ⊥

-- The lines of a scenario follow. A report begins with all lines before this one, and none goes on with this line.
pub record LacksNext (text : List ℕ) (line : ℕ) : Type 0 where
  pub scenario : Scenario
  pub kept : IsScenario scenario
  pub rest : List ℕ
  pub headed : IsHeaded scenario text rest
  pub left : ℕ
  pub fails : FailsAt FitsReport printed text left
  pub number : line ≡ suc (feeds fails.front)

-- the first wrong line of the text, as a report
abbrev pub IsWrongLine : List ℕ → ℕ → Type 0
IsWrongLine text line = LacksFirst text line ⊎ (LacksScenario text line ⊎ LacksNext text line)

-- what a fault says of the text; it may come of memory alone
abbrev pub IsReportFault : List ℕ → ReportFault → Type 0
IsReportFault text fault.NoMemory = Unit {0}
IsReportFault text (fault.Bad line) = IsWrongLine text line × ((l : Logs) → FitsReport l → printed l ≡ text → ⊥)
