-- The slots that wait are taken one by one.
use Rattle.std.proofs.Common.{length, rules, append-nil, sym, ap, ◌∙◌, arith}
use Rattle.std.specs.Result.{IsErrOf}
use Rattle.std.proofs.lemmas.List.{length_push}
use Rattle.domains.specs.DriveSet.{has}
use Rattle.placement.specs.declared.partial_group.PlaceStop.TheVariants.{NoMemory, NoRoom}
use Rattle.placement.proofs.NextUnit.{popped-both, popped-in_order, popped-stage, stayed-placed}
use Rattle.placement_order.proofs.MarkedDrives.{marked_up_to-le}
use Rattle.fabric.specs.Views.{fabric_view}
use Rattle.slot_search.proofs.SeatTurns.{keeps-twice}
use Rattle.placement.proofs.unit_writes.write_all.Goals as goal

pub write_next-requires-clause-in_order : goal.write_next-requires-clause-in_order
write_next-requires-clause-in_order g c κs bounds =
    let p = c.loop-held.group in
    popped-in_order g.S.Slot.place_of c.args.request.now p (record p { waiting = c.pop.new.self }) c.in-Some.held c.in-Some.ensures.items
    c.pop.ensures.capacity c.loop-held.invariant.in_order

pub write_next-requires-clause-stage : goal.write_next-requires-clause-stage
write_next-requires-clause-stage g c κs bounds =
    let p = c.loop-held.group in
    popped-stage g.S.Slot.place_of c.args.request.now p (record p { waiting = c.pop.new.self }) c.in-Some.held c.in-Some.ensures.items c.loop-held.invariant.stage

pub loop-held-smaller : goal.loop-held-smaller
loop-held-smaller g c =
    let p = c.loop-held.group in
    let new = c.write_next.new.group in
    let long = ap length c.in-Some.ensures.items in
    let push = length_push c.pop.new.self.items c.in-Some.held in
    let less = c.in_ok-write_next.ensures.less in
    let counted = c.write_next.ensures.in_order.counted in
    let before = c.loop-held.invariant.in_order.counted in
    let most = marked_up_to-le c.args.request.now.shape.nodes c.args.request.now.shape.drives (has new.search.spent) in
    let was = marked_up_to-le c.args.request.now.shape.nodes c.args.request.now.shape.drives (has p.search.spent) in
    omega (arith, long, push, less, counted, before, most, was)

pub loop-held-preserved : goal.loop-held-preserved
loop-held-preserved g c =
    let place_of = g.S.Slot.place_of in
    let content = g.S.Slot.content in
    let len_of = g.S.Slot.len_of in
    let faults = g.S.Slot.faults in
    let t = c.args.request.now in
    let units = c.args.units.now.units in
    let p = c.loop-held.group in
    record {
      keeps = keeps-twice (fabric_view c.args.fabric.now) c.args.hand.now c.loop-held.hand c.write_next.new.hand c.loop-held.invariant.keeps c.write_next.ensures.keeps;
      in_order = c.write_next.ensures.in_order;
      stage = c.in_ok-write_next.ensures.stage;
      full = c.in_ok-write_next.ensures.full;
      once = λ start asked. c.write_next.ensures.once start (c.loop-held.invariant.once start asked);
      placed = λ start placed.
          let before = c.loop-held.invariant.placed start placed in
          let both = popped-both place_of content len_of faults t units start c.loop-held.hand p (record p { waiting = c.pop.new.self }) c.in-Some.held c.in-Some.ensures.items before in
          c.in_ok-write_next.ensures.placed start both.0 both.1;
    }

pub returns-in_err-write_next-clause-so_far : goal.returns-in_err-write_next-clause-so_far
returns-in_err-write_next-clause-so_far g c stopped start placed =
    let place_of = g.S.Slot.place_of in
    let content = g.S.Slot.content in
    let len_of = g.S.Slot.len_of in
    let faults = g.S.Slot.faults in
    let t = c.args.request.now in
    let units = c.args.units.now.units in
    let p = c.loop-held.group in
    let told : IsErrOf c.write_next.result NoRoom = search rules in
    let before = c.loop-held.invariant.placed start placed in
    let both = popped-both place_of content len_of faults t units start c.loop-held.hand p (record p { waiting = c.pop.new.self }) c.in-Some.held c.in-Some.ensures.items before in
    c.write_next.ensures.so_far told start both.0 both.1

pub returns-in_err-write_next-clause-lost : goal.returns-in_err-write_next-clause-lost
returns-in_err-write_next-clause-lost g c stopped start placed =
    let told : IsErrOf c.write_next.result NoMemory = search rules in
    let before = c.loop-held.invariant.placed start placed in
    c.write_next.ensures.lost told start
    (popped-both g.S.Slot.place_of g.S.Slot.content g.S.Slot.len_of g.S.Slot.faults c.args.request.now c.args.units.now.units start c.loop-held.hand c.loop-held.group
    (record c.loop-held.group { waiting = c.pop.new.self }) c.in-Some.held c.in-Some.ensures.items before).1

pub returns-clause-placed : goal.returns-clause-placed
returns-clause-placed g c start placed =
    let p = c.loop-held.group in
    stayed-placed g.S.Slot.place_of g.S.Slot.content g.S.Slot.len_of g.S.Slot.faults c.args.request.now c.args.units.now.units start c.loop-held.hand p
    (record p { waiting = c.pop.new.self }) (sym (append-nil c.pop.new.self.items) ∙ sym c.in_default.ensures.items) (c.loop-held.invariant.placed start placed)

pub returns-in_err-write_next-clause-once : goal.returns-in_err-write_next-clause-once
returns-in_err-write_next-clause-once g c start asked = c.write_next.ensures.once start (c.loop-held.invariant.once start asked)

pub returns-clause-once : goal.returns-clause-once
returns-clause-once g c start asked = c.loop-held.invariant.once start asked
