-- All slots are drawn first, and then written.
use Rattle.std.proofs.Common.{arith}
use Rattle.std.proofs.lemmas.Result.{on_ok_weaker}
use Rattle.placement.specs.PartialGroups.{GoesOn}
use Rattle.placement.proofs.place_call.place_all.Goals as goal

pub returns-then-len-from-clause-no_room : goal.returns-then-len-from-clause-no_room
returns-then-len-from-clause-no_room g c stopped =
    let ok = c.draw_group.new.group.waiting.ok in
    let short = c.if-len-from.true in
    let count = c.len.ensures in
    let most = c.from.ensures in
    c.draw_group.ensures.drawn.no_room (omega (arith, ok, short, count, most))

pub returns-then-len-from-clause-so_far : goal.returns-then-len-from-clause-so_far
returns-then-len-from-clause-so_far g c stopped = c.draw_group.ensures.drawn.placed c.args.units.now.units

pub returns-clause-placed : goal.returns-clause-placed
returns-clause-placed g c =
    on_ok_weaker c.write_all.result
    (λ (goes : GoesOn g.S.Slot.place_of g.S.Slot.content g.S.Slot.len_of g.S.Slot.faults c.args.request.now c.args.units.now.units c.draw_group.new.group c.write_all.new.group
    c.draw_group.new.hand c.write_all.new.hand).
    goes c.args.hand.now (c.draw_group.ensures.drawn.placed c.args.units.now.units))
    c.write_all.ensures.placed

pub returns-clause-so_far : goal.returns-clause-so_far
returns-clause-so_far g c stopped = c.write_all.ensures.so_far stopped c.args.hand.now (c.draw_group.ensures.drawn.placed c.args.units.now.units)

pub returns-clause-lost : goal.returns-clause-lost
returns-clause-lost g c stopped = c.write_all.ensures.lost stopped c.args.hand.now (c.draw_group.ensures.drawn.placed c.args.units.now.units)

pub returns-clause-once : goal.returns-clause-once
returns-clause-once g c = c.write_all.ensures.once c.args.hand.now c.draw_group.ensures.once
