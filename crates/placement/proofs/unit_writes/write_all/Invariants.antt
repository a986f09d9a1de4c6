use Rattle.std.proofs.Common.{◌≡◌, ◌+◌, ◌-◌, ◌*◌, length}
use Rattle.fabric.specs.Views.{fabric_view}
use Rattle.slot_search.specs.Searches.{AsksClosed, KeepsHand}
use Rattle.placement.specs.PartialGroups.{GoesOn, IsAtStage, IsInOrder, slots_of}
use Rattle.placement.proofs.unit_writes.write_all.Given as goal

-- a slot that waits is written, or one that failed leaves
abbrev pub decreases-loop-held : goal.decreases-loop-held
decreases-loop-held g l = length l.group.waiting.items + (l.request.shape.nodes * l.request.shape.drives - length l.group.failed.items)

-- the units so far are written
abbrev pub invariant-loop-held : goal.invariant-loop-held
invariant-loop-held g l = record {
  keeps : KeepsHand (fabric_view l.fn.fabric) l.fn.hand l.hand;
  in_order : IsInOrder g.S.Slot.place_of l.fn.request l.group (slots_of l.group);
  stage : IsAtStage g.S.Slot.place_of l.fn.request l.group (slots_of l.group);
  full : length (slots_of l.group) ≡ l.fn.request.count;
  once : (start : _) → AsksClosed g.S.Slot.place_of l.fn.request.shape l.fn.group.search start l.fn.hand
      → AsksClosed g.S.Slot.place_of l.fn.request.shape l.group.search start l.hand;
  placed : GoesOn g.S.Slot.place_of g.S.Slot.content g.S.Slot.len_of g.S.Slot.faults l.fn.request l.fn.units.units l.fn.group l.group l.fn.hand l.hand;
}
