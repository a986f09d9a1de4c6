use Rattle.std.proofs.Common.{◌≡◌, ◌≤◌, length, OnOk}
use Rattle.flex_io.specs.Faults.{HasCause}
use Rattle.fabric.specs.RackCounts.{RisesBy}
use Rattle.fabric.proofs.rack_slots.put_back.Given as goal

abbrev pub invariant-loop-slot : goal.invariant-loop-slot
invariant-loop-slot g l =
    (g.R.Rack.takes l.rack ≡ g.R.Rack.takes l.fn.rack)
    × OnOk l.outcome (RisesBy (length l.yielded) (g.R.Rack.puts l.fn.rack) (g.R.Rack.puts l.rack))
    × HasCause l.outcome (g.R.Rack.faults l.fn.rack) (g.R.Rack.faults l.rack)
    × (g.R.Rack.faults l.fn.rack ≤ g.R.Rack.faults l.rack)
