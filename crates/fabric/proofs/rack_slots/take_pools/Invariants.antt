use Rattle.std.proofs.Common.{◌≡◌, ◌≤◌, ◌*◌, length}
use Rattle.std.specs.Prelude.{vec_capacity}
use Rattle.fabric.specs.NewFabric.{AreNewPoolsFrom}
use Rattle.fabric.specs.RackCounts.{RisesBy}
use Rattle.fabric.proofs.rack_slots.take_pools.Given as goal

abbrev pub invariant-loop-place : goal.invariant-loop-place
invariant-loop-place g l = record {
  many : length l.pools.items ≡ l.place;
  room : l.drives ≤ vec_capacity l.pools;
  are : AreNewPoolsFrom g.S.Slot.place_of l.shape 0 l.pools.items;
  takes : RisesBy (l.place * l.shape.slots) (g.R.Rack.takes l.fn.rack) (g.R.Rack.takes l.rack);
  puts : g.R.Rack.puts l.rack ≡ g.R.Rack.puts l.fn.rack;
  same : g.R.Rack.back l.rack ≡ g.R.Rack.back l.fn.rack;
  faults : g.R.Rack.faults l.fn.rack ≤ g.R.Rack.faults l.rack;
}
