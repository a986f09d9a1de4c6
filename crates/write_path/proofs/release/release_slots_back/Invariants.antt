use Rattle.std.proofs.Common.{length, reverse}
use Rattle.fabric.specs.Views.{fabric_view}
use Rattle.write_path.proofs.ReleasedSlots.{ReleasedSoFar}
use Rattle.write_path.proofs.release.release_slots_back.Given as goal

abbrev pub decreases-loop-held : goal.decreases-loop-held
decreases-loop-held g l = length l.slots.items

-- these slots are left, in this order
abbrev pub invariant-loop-held : goal.invariant-loop-held
invariant-loop-held g l =
    ReleasedSoFar g.S.Slot.place_of (fabric_view l.fn.fabric) l.fn.view (reverse l.fn.slots.items) l.fn.hand (reverse l.slots.items) l.all l.hand
