use Rattle.std.proofs.Common.{sym, rules}
use Rattle.board.proofs.StatesAfterOrder.{all_in_not}
use Rattle.board.proofs.drive_states.all_gone.Goals as goal

pub returns-then-not-has : goal.returns-then-not-has
returns-then-not-has c = sym (all_in_not c.args.drives c.loop-drive.drive c.args.node c.args.gone.now (search rules) (search rules))
