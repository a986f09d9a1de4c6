-- The logs that print a text, and the first wrong line of a text that none print.
use Rattle.std.specs.Prelude.{codes, ◌≡◌, ◌⊎◌, ℕ, suc, ◌==◌, List, [], ◌∷◌, ◌++◌, count_by}
use Rattle.scenario.specs.Canonical.{canonical_text}
use Rattle.scenario.specs.declared.scenario.Scenario.{Scenario}
use Rattle.report.specs.Printed.{printed}
use Rattle.report.specs.declared.logs.Logs.{Logs}
use Rattle.report_blocks.specs.Blocks.{AreLogs}
use Rattle.report_blocks.specs.Fronts.{FailsAt}
use Rattle.report_blocks.specs.declared.whole_report.ReportFault.{ReportFault}
use Rattle.report_blocks.specs.declared.whole_report.ReportFault.TheVariants as fault

-- the logs are of this scenario: the board has one, and each file
pub record AreLogsOf (s : Scenario) (l : Logs) : Type 0 where
  pub scenario : l.scenario ≡ s
  pub logs : AreLogs s.files (l.board, l.files)

abbrev pub first_line : List ℕ
first_line = codes "report 1\n"

-- the text is empty, or its first line begins with `board `
abbrev pub IsBoardNext : List ℕ → Type 0
IsBoardNext text = (text ≡ []) ⊎ ((rest : List ℕ) × (text ≡ codes "board " ++ rest))

-- The lines from the second to the one before the first that begins with `board `, or to the last, are the canonical text of
-- the scenario (which has no line that begins so); the rest stands behind them.
pub record IsHeaded (s : Scenario) (text rest : List ℕ) : Type 0 where
  pub is : text ≡ first_line ++ (canonical_text s ++ rest)
  pub next : IsBoardNext rest

-- how many line feeds the text has
abbrev pub feeds : List ℕ → ℕ
feeds text = count_by (λ b. b == 10) text

-- the first line is not `report 1`
pub record LacksFirst (text : List ℕ) (line : ℕ) : Type 0 where
  pub one : line ≡ 1
  pub none : (rest : List ℕ) → text ≡ first_line ++ rest → ⊥

-- the first line is `report 1`, and the lines of the scenario do not follow
pub record LacksScenario (s : Scenario) (text : List ℕ) (line : ℕ) : Type 0 where
  pub two : line ≡ 2
  pub rest : List ℕ
  pub is : text ≡ first_line ++ rest
  pub none : (behind : List ℕ) → IsHeaded s text behind → ⊥

-- The lines of the scenario follow. A report of it begins with all lines before this one, and none goes on with this line.
pub record LacksNext (s : Scenario) (text : List ℕ) (line : ℕ) : Type 0 where
  pub rest : List ℕ
  pub headed : IsHeaded s text rest
  pub left : ℕ
  pub fails : FailsAt (AreLogsOf s) printed text left
  pub number : line ≡ suc (feeds fails.front)

-- the first wrong line of the text, as a report of this scenario
abbrev pub IsWrongLine : Scenario → List ℕ → ℕ → Type 0
IsWrongLine s text line = LacksFirst text line ⊎ (LacksScenario s text line ⊎ LacksNext s text line)

-- what a fault says of the text; it may come of memory alone
abbrev pub IsFaultOf : Scenario → List ℕ → ReportFault → Type 0
IsFaultOf s text fault.NoMemory = Unit {0}
IsFaultOf s text (fault.Bad line) = IsWrongLine s text line × ((l : Logs) → AreLogsOf s l → printed l ≡ text → ⊥)
