use Rattle.std.proofs.Common.{◌≡◌, ◌*◌, ◌≤◌}
use Rattle.flex_run.specs.RackStates.{RisesBy}
use Rattle.held_slots.specs.Slots.{places_from}
use Rattle.flex_run.specs.StockOrder.{all_stacks}
use Rattle.flex_run.proofs.slots.take_all.Given as goal

abbrev pub invariant-loop-node : goal.invariant-loop-node
invariant-loop-node g l =
    (places_from g.R.Piece.Slot.place_of l.slots.items ≡ all_stacks l.node l.shape)
    × (g.R.Rack.back l.rack ≡ g.R.Rack.back l.fn.rack)
    × (g.R.Rack.faults l.fn.rack ≤ g.R.Rack.faults l.rack)
    × RisesBy (l.node * (l.shape.drives * l.shape.slots)) (g.R.Rack.takes l.fn.rack) (g.R.Rack.takes l.rack)
    × (g.R.Rack.puts l.rack ≡ g.R.Rack.puts l.fn.rack)
