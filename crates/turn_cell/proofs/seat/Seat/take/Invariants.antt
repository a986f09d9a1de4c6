use Rattle.std.proofs.Common.{◌≡◌, []}
use Rattle.turn_cell.specs.declared.view.View.TheVariants.{Active}
use Rattle.turn_cell.specs.Seats.{IsSame, known}
use Rattle.turn_cell.proofs.seat.Seat.take.Given as goal

abbrev pub invariant-loop : goal.invariant-loop
invariant-loop g l = IsSame l.initial.self l.self × (l.self.token.me ≡ (Active (known l.initial.self), []))
