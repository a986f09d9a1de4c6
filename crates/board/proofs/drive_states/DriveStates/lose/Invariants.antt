use Rattle.std.proofs.Common.{◌≡◌, true, false, ◌&&◌, if◌then◌else◌, ◌==◌, nat_le}
use Rattle.domains.specs.Drive.{Drive, IsDrive}
use Rattle.domains.specs.DriveSet.{has}
use Rattle.board.proofs.drive_states.DriveStates.lose.Given as goal

abbrev pub invariant-loop-drive : goal.invariant-loop-drive
invariant-loop-drive l = record {
  up : (d : Drive) → IsDrive d → has l.self.up d ≡ (if (d.node == l.node) && nat_le d.drive l.drive then false else has l.initial.self.up d);
  gone : (d : Drive) → IsDrive d → has l.self.gone d ≡ (if (d.node == l.node) && nat_le d.drive l.drive then true else has l.initial.self.gone d);
}
