use Rattle.std.proofs.Common.{◌≡◌, ◌≤◌, OnOk}
use Rattle.flex_io.specs.Faults.{HasCause}
use Rattle.fabric.specs.NewFabric.{free_in}
use Rattle.fabric.specs.RackCounts.{RisesBy}
use Rattle.fabric.proofs.rack_slots.put_pools_back.Given as goal

abbrev pub invariant-loop-pool : goal.invariant-loop-pool
invariant-loop-pool g l =
    (g.R.Rack.takes l.rack ≡ g.R.Rack.takes l.fn.rack)
    × OnOk l.outcome (RisesBy (free_in l.yielded) (g.R.Rack.puts l.fn.rack) (g.R.Rack.puts l.rack))
    × HasCause l.outcome (g.R.Rack.faults l.fn.rack) (g.R.Rack.faults l.rack)
    × (g.R.Rack.faults l.fn.rack ≤ g.R.Rack.faults l.rack)
