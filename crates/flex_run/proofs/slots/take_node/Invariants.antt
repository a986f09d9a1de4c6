use Rattle.std.proofs.Common.{◌≡◌, ◌*◌, ◌≤◌, ◌++◌}
use Rattle.flex_run.specs.RackStates.{RisesBy}
use Rattle.held_slots.specs.Slots.{places_from}
use Rattle.flex_run.specs.StockOrder.{node_stacks}
use Rattle.flex_run.proofs.slots.take_node.Given as goal

abbrev pub invariant-loop-drive : goal.invariant-loop-drive
invariant-loop-drive g l =
    (places_from g.R.Piece.Slot.place_of l.slots.items
    ≡ places_from g.R.Piece.Slot.place_of l.fn.slots.items ++ node_stacks l.drive l.node l.shape.slots)
    × (g.R.Rack.back l.rack ≡ g.R.Rack.back l.fn.rack)
    × (g.R.Rack.faults l.fn.rack ≤ g.R.Rack.faults l.rack)
    × RisesBy (l.drive * l.shape.slots) (g.R.Rack.takes l.fn.rack) (g.R.Rack.takes l.rack)
    × (g.R.Rack.puts l.rack ≡ g.R.Rack.puts l.fn.rack)
