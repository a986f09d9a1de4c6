-- The groups that are left may go back, and the hand holds less by the others.
use Rattle.std.proofs.Common.{◌≡◌, true, length}
use Rattle.std.specs.List.{AllByRecursion}
use Rattle.fabric.specs.Views.{fabric_view}
use Rattle.slot_search.specs.Searches.{KeepsHand}
use Rattle.turn_cell.specs.Seats.{seat_view}
use Rattle.placed_runs.specs.PlacedRuns.{MayGroupGoBack, slots_of_groups}
use Rattle.placed_runs.proofs.GivenBack.{HoldsLessThan}
use Rattle.placed_runs.proofs.returned.give_groups_back.Given as goal

abbrev pub invariant-loop-group : goal.invariant-loop-group
invariant-loop-group g l = record {
  keeps : KeepsHand (fabric_view l.fabric) l.fn.hand l.hand;
  back : AllByRecursion (MayGroupGoBack g.S.Slot.place_of (fabric_view l.fabric).shape l.view) l.groups.items;
  yard : seat_view l.hand.yard ≡ seat_view l.fn.hand.yard;
  less : l.all ≡ true → HoldsLessThan g.S.Slot.place_of (fabric_view l.fabric).shape (slots_of_groups l.fn.groups) (slots_of_groups l.groups.items) l.fn.hand l.hand;
}

abbrev pub decreases-loop-group : goal.decreases-loop-group
decreases-loop-group g l = length l.groups.items
