use Rattle.std.proofs.Common.{◌≡◌, ◌≤◌, length}
use Rattle.std.specs.Prelude.{vec_capacity}
use Rattle.slot_pool.specs.Pools.{AreSlotsOf}
use Rattle.fabric.specs.RackCounts.{RisesBy}
use Rattle.fabric.proofs.rack_slots.take_slots.Given as goal

abbrev pub invariant-loop-number : goal.invariant-loop-number
invariant-loop-number g l = record {
  many : length l.slots.items ≡ l.number;
  room : l.count ≤ vec_capacity l.slots;
  are : AreSlotsOf g.S.Slot.place_of l.drive l.slots.items;
  takes : RisesBy l.number (g.R.Rack.takes l.fn.rack) (g.R.Rack.takes l.rack);
  puts : g.R.Rack.puts l.rack ≡ g.R.Rack.puts l.fn.rack;
  same : g.R.Rack.back l.rack ≡ g.R.Rack.back l.fn.rack;
  faults : g.R.Rack.faults l.fn.rack ≤ g.R.Rack.faults l.rack;
}
