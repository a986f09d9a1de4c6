use Rattle.std.proofs.Common.{codes, ◌∙◌, sym}
use Rattle.report_reader.proofs.Cuts.{told_apart, told_same}
use Rattle.report_reader.proofs.GroupsParted.{behind_dash, no_dash}
use Rattle.report_reader.proofs.groups.groups_part.Goals as goal

pub returns-then-eq : goal.returns-then-eq
returns-then-eq c = λ gs i are is.
    behind_dash gs i c.args.text.now c.cut.result.0.now c.cut.result.1.now are is c.cut.ensures.at (told_same c.cut.result.0.now (codes "-") (sym c.eq.ensures ∙ c.if-eq.true))

pub returns-else-eq : goal.returns-else-eq
returns-else-eq c = λ gs i are is.
    no_dash gs i c.args.text.now c.cut.result.0.now c.cut.result.1.now are is c.cut.ensures.at (λ same. told_apart c.cut.result.0.now (codes "-") same (sym c.eq.ensures ∙ c.if-eq.false))
