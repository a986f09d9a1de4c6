use Rattle.std.proofs.Common.{length, reverse}
use Rattle.returned_slots.specs.RackStates.{rack_state}
use Rattle.returned_slots.proofs.ReturnLemmas.{Returning}
use Rattle.returned_slots.proofs.slots.put_from_the_end.Given as goal

abbrev pub decreases-loop-held : goal.decreases-loop-held
decreases-loop-held g l = length l.slots.items

abbrev pub invariant-loop-held : goal.invariant-loop-held
invariant-loop-held g l =
    Returning g.S.Slot.place_of g.S.Slot.content (reverse l.fn.slots.items) (reverse l.slots.items) l.outcome
    (rack_state g.R.Rack.back g.R.Rack.takes g.R.Rack.puts g.R.Rack.faults l.fn.rack) (rack_state g.R.Rack.back g.R.Rack.takes g.R.Rack.puts g.R.Rack.faults l.rack)
