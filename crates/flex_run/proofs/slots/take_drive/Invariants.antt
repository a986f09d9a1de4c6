use Rattle.std.proofs.Common.{◌≡◌, ◌≤◌, ◌++◌, ◌-◌}
use Rattle.flex_run.specs.RackStates.{RisesBy}
use Rattle.held_slots.specs.Slots.{places_from}
use Rattle.flex_run.specs.StockOrder.{drive_stack}
use Rattle.flex_run.proofs.slots.take_drive.Given as goal

abbrev pub invariant-loop-turn : goal.invariant-loop-turn
invariant-loop-turn g l =
    (places_from g.R.Piece.Slot.place_of l.slots.items ++ drive_stack (l.count - l.turn) (record { node = l.drive.0; drive = l.drive.1 })
    ≡ places_from g.R.Piece.Slot.place_of l.fn.slots.items ++ drive_stack l.count (record { node = l.drive.0; drive = l.drive.1 }))
    × (g.R.Rack.back l.rack ≡ g.R.Rack.back l.fn.rack)
    × (g.R.Rack.faults l.fn.rack ≤ g.R.Rack.faults l.rack)
    × RisesBy l.turn (g.R.Rack.takes l.fn.rack) (g.R.Rack.takes l.rack)
    × (g.R.Rack.puts l.rack ≡ g.R.Rack.puts l.fn.rack)
