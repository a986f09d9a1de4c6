use Rattle.std.proofs.Common.{◌≡◌, drop}
use Rattle.board_history.specs.Board.{state_from, state_after}
use Rattle.board.proofs.board.state_after.Given as goal

abbrev pub invariant-loop-entry : goal.invariant-loop-entry
invariant-loop-entry l = state_from (drop l.entry-index l.entries) l.drive l.state ≡ state_after l.entries l.drive
