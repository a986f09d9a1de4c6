use Rattle.std.proofs.Common.{ℕ, List, length}
use denote.Text.{Utf8}
use denote.Shadow.{shadow}
use Rattle.report_blocks.specs.WrongLine.{IsBoardNext}
use Rattle.whole_report.specs.ScenarioLines.{HasTail}
use Rattle.whole_report.proofs.scenario_lines.from_board.Given as goal

-- the lines that were passed were no tail
abbrev pub invariant-lines : goal.invariant-lines
invariant-lines l = shadow (Utf8 l.rest) × ((tail : List ℕ) → IsBoardNext tail → HasTail l.text tail → HasTail l.rest tail)

abbrev pub decreases-lines : goal.decreases-lines
decreases-lines l = length l.rest
