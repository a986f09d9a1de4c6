use Rattle.fabric.specs.CloseBuffers.{TakesSeat}
use Rattle.fabric.proofs.SeatsDealt.{AreLeft}
use Rattle.fabric.proofs.close_buffers.take_each.Given as goal

abbrev pub invariant-loop-seat : goal.invariant-loop-seat
invariant-loop-seat g l = AreLeft TakesSeat l.fn.seats.items l.seats.items l.fn.buffers.items l.buffers.items

abbrev pub decreases-loop-seat : goal.decreases-loop-seat
decreases-loop-seat g l = goal.left-loop-seat g l
