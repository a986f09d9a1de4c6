use Rattle.std.proofs.Common.{◌≤◌}
use Rattle.fabric.proofs.rack_slots.put_held_back.Given as goal

abbrev pub invariant-loop-held : goal.invariant-loop-held
invariant-loop-held g l = g.R.Rack.faults l.fn.rack ≤ g.R.Rack.faults l.rack

abbrev pub decreases-loop-held : goal.decreases-loop-held
decreases-loop-held g l = goal.left-loop-held g l
