use Rattle.std.proofs.Common.{ℕ, List, ◌++◌}
use Rattle.domains.specs.Drive.{Drive}
use Rattle.fabric.specs.Views.{fabric_view}
use Rattle.placement_order.specs.Order.{nodes_of, visits_in}
use Rattle.slot_search.specs.Searches.{IsBefore, KeepsSearch, request_of}
use Rattle.placement_order.proofs.VisitsLeft.{nodes_left}
use Rattle.slot_search.proofs.search.draw_round.Given as goal

-- the nodes so far are visited
abbrev pub invariant-loop-step : goal.invariant-loop-step
invariant-loop-step g l = record {
  keeps : KeepsSearch g.S.Slot.place_of (fabric_view l.fn.fabric) l.fn.request l.fn.search l.search l.fn.hand l.hand;
  order : (before : List Drive) (rest : List (ℕ × ℕ)) → IsBefore g.S.Slot.place_of l.fn.request before (visits_in l.fn.round (nodes_of (request_of l.fn.request)) ++ rest) l.fn.search
      → IsBefore g.S.Slot.place_of l.fn.request before (visits_in l.fn.round (nodes_left (request_of l.fn.request) l.step) ++ rest) l.search;
}
