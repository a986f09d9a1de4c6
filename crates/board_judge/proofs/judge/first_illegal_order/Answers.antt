use Rattle.std.proofs.Common.{rules, ℕ, ◌+◌, sym, subst}
use Rattle.legal_runs.specs.Entries.{IsBrokenOrder, IsLeast}
use Rattle.board_judge.proofs.JudgedOrders.{all_legal, breaks_here, judged_more}
use Rattle.board_judge.proofs.judge.first_illegal_order.Goals as goal

pub returns-then-not-fits_order : goal.returns-then-not-fits_order
returns-then-not-fits_order c =
    let P : ℕ → Type 0 = λ n. IsLeast (IsBrokenOrder c.args.scenario.now c.args.log.now) (n + 1) in
    subst P (sym c.loop-entry.invariant.number)
    (breaks_here c.args.scenario.now c.args.log.now c.loop-entry.entry-index c.loop-entry.board c.entry-item.result c.loop-entry.invariant.judged (search rules) c.entry-item.is
    (λ fits step. absurd (search (rules, c.if-not-fits_order.ensures.1 fits))))

pub returns-then-not-takes : goal.returns-then-not-takes
returns-then-not-takes c =
    let P : ℕ → Type 0 = λ n. IsLeast (IsBrokenOrder c.args.scenario.now c.args.log.now) (n + 1) in
    subst P (sym c.loop-entry.invariant.number)
    (breaks_here c.args.scenario.now c.args.log.now c.loop-entry.entry-index c.loop-entry.board c.entry-item.result c.loop-entry.invariant.judged (search rules) c.entry-item.is
    (λ fits step. absurd (search (rules, c.if-not-takes.ensures.step.1 step))))

pub loop-entry-preserved : goal.loop-entry-preserved
loop-entry-preserved c = record {
  judged = judged_more c.args.scenario.now c.args.log.now c.loop-entry.entry-index c.loop-entry.board c.takes.new.board c.entry-item.result c.loop-entry.invariant.judged
      (search rules) c.entry-item.is (c.if-not-fits_order.ensures.0 (search rules)) (c.if-not-takes.ensures.step.0 (search rules)) (c.if-not-takes.ensures.taken (search rules));
  number = search rules;
}

pub returns : goal.returns
returns c = all_legal c.args.scenario.now c.args.log.now c.loop-entry.entry-index c.loop-entry.board c.loop-entry.invariant.judged (search rules)
