use Rattle.std.proofs.Common.{[], ◌∷◌}
use Rattle.returned_slots.proofs.ReturnLemmas.{returns-none, returns-then}
use Rattle.returned_slots.proofs.slots.put_slots.Goals as goal

pub loop-slot-init : goal.loop-slot-init
loop-slot-init g c = returns-none g.S.Slot.place_of g.S.Slot.content tt _

pub loop-slot-preserved : goal.loop-slot-preserved
loop-slot-preserved g c =
    returns-then g.S.Slot.place_of g.S.Slot.content c.loop-slot.yielded (c.in-Some.slot ∷ []) c.loop-slot.outcome c.put_slot-put.result c.and-outcome.result _ _ _
    c.loop-slot.invariant c.put_slot-put.ensures c.and-outcome.ensures
