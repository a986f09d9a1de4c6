use Rattle.returned_slots.specs.RackStates.{rack_state}
use Rattle.returned_slots.specs.Returns.{Returns, free_slots}
use Rattle.returned_slots.proofs.slots.put_pools.Given as goal

abbrev pub invariant-loop-pool : goal.invariant-loop-pool
invariant-loop-pool g l =
    Returns g.S.Slot.place_of g.S.Slot.content (free_slots l.yielded) l.outcome (rack_state g.R.Rack.back g.R.Rack.takes g.R.Rack.puts g.R.Rack.faults l.fn.rack)
    (rack_state g.R.Rack.back g.R.Rack.takes g.R.Rack.puts g.R.Rack.faults l.rack)
