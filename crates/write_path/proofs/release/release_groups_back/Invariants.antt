use Rattle.std.proofs.Common.{length, reverse}
use Rattle.fabric.specs.Views.{fabric_view}
use Rattle.write_path.specs.Releases.{slots_in}
use Rattle.write_path.proofs.ReleasedSlots.{ReleasedSoFar}
use Rattle.write_path.proofs.release.release_groups_back.Given as goal

abbrev pub decreases-loop-group : goal.decreases-loop-group
decreases-loop-group g l = length l.groups.items

-- the slots of these groups are left, in this order
abbrev pub invariant-loop-group : goal.invariant-loop-group
invariant-loop-group g l =
    ReleasedSoFar g.S.Slot.place_of (fabric_view l.fn.fabric) l.fn.view (slots_in (reverse l.fn.groups.items)) l.fn.hand (slots_in (reverse l.groups.items)) l.all l.hand
