use Rattle.std.proofs.Common.{reverse, arith}
use Rattle.std.proofs.lemmas.List.{nil_from_length}
use Rattle.returned_slots.proofs.ReturnLemmas.{returning-all, returning-next, returning-none}
use Rattle.returned_slots.proofs.slots.put_from_the_end.Goals as goal

pub loop-held-init : goal.loop-held-init
loop-held-init g c = returning-none g.S.Slot.place_of g.S.Slot.content (reverse c.args.slots.items) tt _

pub loop-held-preserved : goal.loop-held-preserved
loop-held-preserved g c =
    returning-next g.S.Slot.place_of g.S.Slot.content _ c.loop-held.slots.items c.pop.new.self.items c.in-Some.held c.spend.result c.loop-held.outcome c.put_slot-put.result c.and-outcome.result _ _ _
    c.in-Some.ensures.items c.loop-held.invariant c.put_slot-put.ensures c.spend.ensures c.and-outcome.ensures

pub returns : goal.returns
returns g c =
    let ended = (rw c.in_default.is at c.pop.ensures.cases).0 in
    let long = c.loop-held.slots.ok in
    returning-all g.S.Slot.place_of g.S.Slot.content _ c.loop-held.slots.items c.loop-held.outcome _ _ (nil_from_length c.loop-held.slots.items (omega (arith, ended, long))) c.loop-held.invariant
