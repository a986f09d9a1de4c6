use Rattle.std.proofs.Common.{length}
use Rattle.fabric.specs.Views.{fabric_view}
use Rattle.slot_search.proofs.ReleasedSlots.{HasReleased}
use Rattle.slot_search.proofs.release.release_all.Given as goal

abbrev pub decreases-loop-held : goal.decreases-loop-held
decreases-loop-held g l = length l.slots.items

-- the slots that are left, the others went back
abbrev pub invariant-loop-held : goal.invariant-loop-held
invariant-loop-held g l = HasReleased g.S.Slot.place_of (fabric_view l.fn.fabric) l.fn.slots.items l.fn.hand l.slots.items l.all_back l.hand
