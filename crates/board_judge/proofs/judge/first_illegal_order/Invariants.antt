use Rattle.std.proofs.Common.{◌≡◌}
use Rattle.board_judge.proofs.JudgedOrders.{AreJudged}
use Rattle.board_judge.proofs.judge.first_illegal_order.Given as goal

-- the entries so far are legal
abbrev pub invariant-loop-entry : goal.invariant-loop-entry
invariant-loop-entry l = record { judged : AreJudged l.scenario l.log l.entry-index l.board; number : l.number ≡ l.entry-index }
