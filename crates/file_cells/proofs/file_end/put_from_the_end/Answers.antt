use Rattle.std.proofs.Common.{reverse, arith}
use Rattle.std.proofs.lemmas.List.{nil_from_length}
use Rattle.file_cells.proofs.FilesReturned.{each-all, each-next, each-none}
use Rattle.file_cells.proofs.file_end.put_from_the_end.Goals as goal

pub loop-group-init : goal.loop-group-init
loop-group-init g c = each-none g.S.Slot.place_of g.S.Slot.content (λ group. group.slots) (reverse c.args.groups.items) tt _

pub loop-group-preserved : goal.loop-group-preserved
loop-group-preserved g c =
    each-next g.S.Slot.place_of g.S.Slot.content (λ group. group.slots) _ c.loop-group.groups.items c.pop.new.self.items c.in-Some.group c.into_slots.result
    c.loop-group.outcome c.put_held-put.result c.and-outcome.result _ _ _
    c.in-Some.ensures.items c.loop-group.invariant c.put_held-put.ensures c.into_slots.ensures c.and-outcome.ensures

pub returns : goal.returns
returns g c =
    let ended = (rw c.in_default.is at c.pop.ensures.cases).0 in
    let long = c.loop-group.groups.ok in
    each-all g.S.Slot.place_of g.S.Slot.content (λ group. group.slots) _ c.loop-group.groups.items c.loop-group.outcome _ _
    (nil_from_length c.loop-group.groups.items (omega (arith, ended, long))) c.loop-group.invariant
