use Rattle.std.proofs.Common.{length, reverse}
use Rattle.returned_slots.specs.RackStates.{rack_state}
use Rattle.file_cells.proofs.FilesReturned.{ReturningEach}
use Rattle.file_cells.proofs.file_end.put_from_the_end.Given as goal

abbrev pub decreases-loop-group : goal.decreases-loop-group
decreases-loop-group g l = length l.groups.items

abbrev pub invariant-loop-group : goal.invariant-loop-group
invariant-loop-group g l =
    ReturningEach g.S.Slot.place_of g.S.Slot.content (λ group. group.slots) (reverse l.fn.groups.items) (reverse l.groups.items) l.outcome
    (rack_state g.R.Rack.back g.R.Rack.takes g.R.Rack.puts g.R.Rack.faults l.fn.rack) (rack_state g.R.Rack.back g.R.Rack.takes g.R.Rack.puts g.R.Rack.faults l.rack)
