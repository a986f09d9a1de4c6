use Rattle.returned_slots.specs.RackStates.{rack_state}
use Rattle.returned_slots.specs.Returns.{Returns}
use Rattle.returned_slots.proofs.slots.put_slots.Given as goal

abbrev pub invariant-loop-slot : goal.invariant-loop-slot
invariant-loop-slot g l =
    Returns g.S.Slot.place_of g.S.Slot.content l.yielded l.outcome (rack_state g.R.Rack.back g.R.Rack.takes g.R.Rack.puts g.R.Rack.faults l.fn.rack)
    (rack_state g.R.Rack.back g.R.Rack.takes g.R.Rack.puts g.R.Rack.faults l.rack)
