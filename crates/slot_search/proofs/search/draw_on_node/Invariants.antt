use Rattle.fabric.specs.Views.{fabric_view}
use Rattle.slot_search.specs.Searches.{KeepsSearch}
use Rattle.slot_search.proofs.FirstOpenDrive.{HasPassed}
use Rattle.slot_search.proofs.search.draw_on_node.Given as goal

-- the drives so far are passed
abbrev pub invariant-loop-step : goal.invariant-loop-step
invariant-loop-step g l = record {
  keeps : KeepsSearch g.S.Slot.place_of (fabric_view l.fn.fabric) l.fn.request l.fn.search l.search l.fn.hand l.hand;
  passed : HasPassed g.S.Slot.place_of l.fn.request l.fn.node l.fn.search l.step l.search;
}
