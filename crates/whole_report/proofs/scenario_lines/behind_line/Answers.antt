use Rattle.std.proofs.Common.{arith, None, Some}
use Rattle.std.proofs.lemmas.Str.Pattern.{split_after}
use Rattle.report_reader.proofs.Cuts.{lacks_at}
use Rattle.whole_report.proofs.scenario_lines.behind_line.Goals as goal

pub returns-in-Some-clause-at : goal.returns-in-Some-clause-at
returns-in-Some-clause-at c = λ xs ys clean is.
    (split_after 10 c.args.text.now xs ys (Some (c.in-Some.field-0-0, c.in-Some.rest)) c.in-Some.ensures.cases (omega arith) is (lacks_at 10 xs clean)).1

pub returns-in-None-clause-at : goal.returns-in-None-clause-at
returns-in-None-clause-at c = λ xs ys clean is.
    absurd (split_after 10 c.args.text.now xs ys None c.in-None.ensures.cases (omega arith) is (lacks_at 10 xs clean))
