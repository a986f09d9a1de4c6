use Rattle.std.proofs.Common.{◌++◌, ◌∙◌, List, ℕ, ap, sym}
use Rattle.whole_report.proofs.scenario_lines.parted.Goals as goal

pub returns-in_err-front-clause-only : goal.returns-in_err-front-clause-only
returns-in_err-front-clause-only c = λ front tail next is has.
    absurd (c.in_err-front.ensures.only front (is ∙ ap (λ (t : List ℕ). front ++ t) (sym (c.from_board-rest.ensures.only tail next has))))

pub returns-clause-only : goal.returns-clause-only
returns-clause-only c = λ front tail next is has.
    let same = c.from_board-rest.ensures.only tail next has in
    (c.in_ok-front.ensures.only front (is ∙ ap (λ (t : List ℕ). front ++ t) (sym same)), same)
