use Rattle.std.proofs.Common.{◌≡◌, ◌≤◌, length}
use Rattle.flex_run.specs.RackStates.{RisesBy}
use Rattle.flex_run.specs.StockOrder.{PutsBack}
use Rattle.flex_run.proofs.slots.put_all.Given as goal

abbrev pub invariant-loop-piece : goal.invariant-loop-piece
invariant-loop-piece g l =
    PutsBack (g.R.Rack.back l.fn.rack) (g.R.Rack.back l.rack) g.R.Piece.Slot.place_of g.R.Piece.Slot.content l.yielded
    × (g.R.Rack.faults l.fn.rack ≤ g.R.Rack.faults l.rack)
    × (g.R.Rack.takes l.rack ≡ g.R.Rack.takes l.fn.rack)
    × RisesBy (length l.yielded) (g.R.Rack.puts l.fn.rack) (g.R.Rack.puts l.rack)
