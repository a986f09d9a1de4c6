use Rattle.std.proofs.Common.{drop, arith}
use Rattle.write_rule.proofs.RunOfWidths.{begun_by-ends}
use Rattle.write_rule.proofs.run.begun_by.Goals as goal

pub returns-then-front-unit-clause-groups : goal.returns-then-front-unit-clause-groups
returns-then-front-unit-clause-groups c =
    let begun = c.loop-n.invariant.begun in
    let past = c.if-front-unit.true in
    let none = begun_by-ends (drop c.loop-n.front.groups c.args.widths.now) c.loop-n.front.units c.args.unit (omega (arith, past)) in
    omega (arith, begun, none)
