use Rattle.std.proofs.Common.{◌≡◌, true}
use Rattle.board.specs.DriveStates.{all_in}
use Rattle.board.proofs.drive_states.all_gone.Given as goal

abbrev pub invariant-loop-drive : goal.invariant-loop-drive
invariant-loop-drive l = all_in l.drive l.node l.gone ≡ true
