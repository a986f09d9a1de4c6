use Rattle.std.proofs.Common.{rules}
use Rattle.whole_report.proofs.ScenarioLines.{tail_behind, tail_here}
use Rattle.whole_report.proofs.scenario_lines.from_board.Goals as goal

pub lines-preserved : goal.lines-preserved
lines-preserved c = (
  search rules,
  λ tail next has. tail_behind c.lines.rest.now c.behind_line-rest.result.now tail (c.lines.invariant.1 tail next has) next
      (λ here. absurd (cc (c.is_board_next.ensures.1 here, c.lines-test.true))) c.behind_line-rest.ensures.at,
)

pub returns-clause-only : goal.returns-clause-only
returns-clause-only c = λ tail next has. tail_here c.lines.rest.now tail (c.lines.invariant.1 tail next has) (c.is_board_next.ensures.0 c.lines-test.false)
