-- The unit of the slot's position is written, or the slot leaves.
use Rattle.std.proofs.Common.{rules, ◌≡◌, ℕ, List, ◌∷◌, length, reverse, refl, ap, subst, ◌∙◌, arith}
use Rattle.std.proofs.lemmas.List.{length-append}
use Rattle.std.proofs.lemmas.Result.{on_ok_weaker}
use Rattle.flex_io.specs.Faults.{HasRisen}
use Rattle.flex_io.specs.Slots.{Holds}
use Rattle.galois.specs.Codeword.{unit_at}
use Rattle.placement.specs.PartialGroups.{GoesOnWith}
use Rattle.placement.proofs.NextUnit.{changed-in_order, changed-placed, changed-stage, waiting-in_order, written-in_order, written-placed, written-stage}
use Rattle.placement.proofs.SlotFailed.{gone-place}
use Rattle.placement.proofs.SlotRetired.{waits-lost}
use Rattle.placement.proofs.unit_writes.write_next.Goals as goal

pub overflow_cast-at : goal.overflow_cast-at
overflow_cast-at g c =
    let p = c.args.group.now in
    let all = length-append p.written.items (c.args.held ∷ reverse p.waiting.items) in
    let full = c.requires.full in
    let many = c.requires.many in
    let few = c.count-count.type_inv in
    let count = c.count-count.ensures in
    let long = c.len-at.ensures in
    let ok = p.written.ok in
    omega (arith, all, full, many, few, count, long, ok)

pub replace-requires-clause-in_order : goal.replace-requires-clause-in_order
replace-requires-clause-in_order g c κs bounds =
    changed-in_order g.S.Slot.place_of c.args.request.now c.args.group.now c.args.group.now c.args.held c.in-Err-Failed-default.held
    c.in-Err-Failed-default.ensures.kept c.requires.in_order

pub replace-requires-clause-stage : goal.replace-requires-clause-stage
replace-requires-clause-stage g c κs bounds =
    changed-stage g.S.Slot.place_of c.args.request.now c.args.group.now c.args.group.now c.args.held c.in-Err-Failed-default.held
    c.in-Err-Failed-default.ensures.kept c.requires.in_order c.requires.stage

pub returns-in-Ok-clause-stage : goal.returns-in-Ok-clause-stage
returns-in-Ok-clause-stage g c =
    written-stage g.S.Slot.place_of c.args.request.now c.args.group.now (record c.args.group.now { written = c.push_reserved.new.self }) c.args.held c.in-Ok.held c.in-Ok.ensures.place
    c.requires.in_order c.push_reserved.ensures.items c.requires.stage

pub returns-in-Ok-clause-in_order : goal.returns-in-Ok-clause-in_order
returns-in-Ok-clause-in_order g c =
    written-in_order g.S.Slot.place_of c.args.request.now c.args.group.now (record c.args.group.now { written = c.push_reserved.new.self }) c.args.held c.in-Ok.held c.in-Ok.ensures.place c.requires.in_order
    c.push_reserved.ensures.items c.push_reserved.ensures.capacity

pub returns-in-Ok-clause-placed : goal.returns-in-Ok-clause-placed
returns-in-Ok-clause-placed g c start at placed =
    let place_of = g.S.Slot.place_of in
    let t = c.args.request.now in
    let p = c.args.group.now in
    let units = c.args.units.now.units in
    let ok = p.written.ok in
    let count = c.len-at.ensures in
    let number : c.len-at.result ≡ length p.written.items = omega (arith, count, ok) in
    let unit : c.unit.result.now ≡ unit_at units (length p.written.items) = c.unit.ensures.unit ∙ ap (unit_at units) number in
    written-placed place_of g.S.Slot.content g.S.Slot.len_of g.S.Slot.faults t units start c.args.hand.now p (record p { written = c.push_reserved.new.self })
    c.args.held c.in-Ok.held c.args.held c.in-Ok.ensures.place refl
    (gone-place place_of t p p c.args.held c.requires.in_order) c.push_reserved.ensures.items
    (subst (λ bytes. Holds (g.S.Slot.content c.in-Ok.held) bytes) unit c.in-Ok.ensures.holds) c.in-Ok.ensures.told (c.in-Ok.ensures.len ∙ ap length unit) at placed

pub returns-in-Err-NoMemory-default-clause-in_order : goal.returns-in-Err-NoMemory-default-clause-in_order
returns-in-Err-NoMemory-default-clause-in_order g c =
    waiting-in_order g.S.Slot.place_of c.args.request.now c.args.group.now
    (record c.args.group.now { waiting = c.push_reserved-in-Err-NoMemory-default.new.self }) c.args.held c.in-Err-NoMemory-default.held c.in-Err-NoMemory-default.ensures.kept
    c.requires.in_order c.push_reserved-in-Err-NoMemory-default.ensures.items c.push_reserved-in-Err-NoMemory-default.ensures.capacity

pub returns-in-Err-Failed-default-clause-so_far : goal.returns-in-Err-Failed-default-clause-so_far
returns-in-Err-Failed-default-clause-so_far g c stopped start at placed =
    let rose : HasRisen (g.S.Slot.faults c.args.held) (g.S.Slot.faults c.in-Err-Failed-default.held) = search rules in
    c.replace.ensures.so_far stopped c.args.units.now.units start c.args.held c.in-Err-Failed-default.ensures.kept rose at
    (changed-placed g.S.Slot.place_of g.S.Slot.content g.S.Slot.len_of g.S.Slot.faults c.args.request.now c.args.units.now.units start c.args.hand.now c.args.group.now
    c.args.held c.in-Err-Failed-default.held c.in-Err-Failed-default.ensures.kept placed)

pub returns-in-Err-Failed-default-clause-placed : goal.returns-in-Err-Failed-default-clause-placed
returns-in-Err-Failed-default-clause-placed g c =
    let place_of = g.S.Slot.place_of in
    let content = g.S.Slot.content in
    let len_of = g.S.Slot.len_of in
    let faults = g.S.Slot.faults in
    let t = c.args.request.now in
    let p = c.args.group.now in
    let kept = c.in-Err-Failed-default.ensures.kept in
    let rose : HasRisen (faults c.args.held) (faults c.in-Err-Failed-default.held) = search rules in
    on_ok_weaker c.replace.result
    (λ (goes : (units : List (List ℕ)) → GoesOnWith place_of content len_of faults t units c.in-Err-Failed-default.held p c.replace.new.group c.args.hand.now c.replace.new.hand)
    start at placed. goes c.args.units.now.units start c.args.held kept rose at
    (changed-placed place_of content len_of faults t c.args.units.now.units start c.args.hand.now p c.args.held c.in-Err-Failed-default.held kept placed))
    c.replace.ensures.placed

pub returns-in-Err-NoMemory-default-clause-lost : goal.returns-in-Err-NoMemory-default-clause-lost
returns-in-Err-NoMemory-default-clause-lost g c stopped start placed =
    waits-lost g.S.Slot.place_of c.args.request.now c.args.group.now c.args.held c.in-Err-NoMemory-default.held _ c.in-Err-NoMemory-default.ensures.kept
    c.push_reserved-in-Err-NoMemory-default.ensures.items start c.args.hand.now placed.account

pub returns-in-Err-Failed-default-clause-lost : goal.returns-in-Err-Failed-default-clause-lost
returns-in-Err-Failed-default-clause-lost g c stopped start placed =
    c.replace.ensures.lost stopped c.args.units.now.units start
    (changed-placed g.S.Slot.place_of g.S.Slot.content g.S.Slot.len_of g.S.Slot.faults c.args.request.now c.args.units.now.units start c.args.hand.now c.args.group.now
    c.args.held c.in-Err-Failed-default.held c.in-Err-Failed-default.ensures.kept placed)

pub returns-in-Ok-clause-once : goal.returns-in-Ok-clause-once
returns-in-Ok-clause-once g c start asked = asked

pub returns-in-Err-NoMemory-default-clause-once : goal.returns-in-Err-NoMemory-default-clause-once
returns-in-Err-NoMemory-default-clause-once g c start asked = asked

pub returns-in-Err-Failed-default-clause-once : goal.returns-in-Err-Failed-default-clause-once
returns-in-Err-Failed-default-clause-once g c start asked = c.replace.ensures.once start asked
