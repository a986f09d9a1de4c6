use Rattle.std.proofs.Common.{List}
use Rattle.domains.specs.Drive.{Drive}
use Rattle.fabric.specs.Views.{fabric_view}
use Rattle.placement_order.specs.Order.{visits_of}
use Rattle.slot_search.specs.Searches.{IsBefore, KeepsSearch, request_of}
use Rattle.placement_order.proofs.VisitsLeft.{visits_left}
use Rattle.slot_search.proofs.search.draw_all.Given as goal

-- the rounds so far are made
abbrev pub invariant-loop-round : goal.invariant-loop-round
invariant-loop-round g l = record {
  keeps : KeepsSearch g.S.Slot.place_of (fabric_view l.fn.fabric) l.fn.request l.fn.search l.search l.fn.hand l.hand;
  order : (before : List Drive) → IsBefore g.S.Slot.place_of l.fn.request before (visits_of (request_of l.fn.request)) l.fn.search
      → IsBefore g.S.Slot.place_of l.fn.request before (visits_left (request_of l.fn.request) l.round) l.search;
}
