-- The group's slots are all written.
use Rattle.std.proofs.Common.{inl, refl, sym, subst, rules}
use Rattle.std.specs.Result.{IsErrOf}
use Rattle.placement.specs.PlacedGroups.{FindsNoPlace, Places}
use Rattle.slot_search.specs.Searches.{request_of}
use Rattle.placement.proofs.GroupDrawn.{all-placed}
use Rattle.placement.proofs.GroupRefused.{if_no_memory, if_no_room, loses-none, loses-slots, none-lost}
use Rattle.placement.specs.Draws.{LosesSlots}
use Rattle.placement.specs.PartialGroups.{TellsNoRoom, slots_of}
use Rattle.placement.specs.declared.partial_group.PlaceStop.TheVariants.{NoMemory, NoRoom}
use Rattle.slot_search.proofs.SeatTurns.{tries-none, tries-once}
use Rattle.placement.proofs.place_call.place_by.Goals as goal

pub returns-in-Ok-place_all-clause-ok : goal.returns-in-Ok-place_all-clause-ok
returns-in-Ok-place_all-clause-ok g c =
    let place_of = g.S.Slot.place_of in
    let content = g.S.Slot.content in
    let len_of = g.S.Slot.len_of in
    let faults = g.S.Slot.faults in
    let told = c.in-Ok-place_all.ensures in
    subst (λ slots. Places place_of content len_of faults (request_of c.args.request.now) c.args.units.now.units slots c.args.hand.now c.place_all.new.hand) (sym c.finish.ensures)
    (all-placed place_of content len_of faults c.args.request.now c.args.units.now.units c.place_all.new.group c.args.hand.now c.place_all.new.hand
    c.requires.many told.in_order told.stage told.full told.none_waits told.placed)

pub returns-in-Err-NoRoom-clause-no_room : goal.returns-in-Err-NoRoom-clause-no_room
returns-in-Err-NoRoom-clause-no_room g c =
    let place_of = g.S.Slot.place_of in
    let content = g.S.Slot.content in
    let len_of = g.S.Slot.len_of in
    let faults = g.S.Slot.faults in
    let t = c.args.request.now in
    let told : IsErrOf c.place_all.result NoRoom = search rules in
    if_no_room c.refuse.result
    (λ refusal. TellsNoRoom place_of content len_of faults t c.place_all.new.group refusal c.place_all.new.hand c.refuse.new.hand)
    (λ refusal. FindsNoPlace place_of content len_of faults (request_of t) c.args.units.now.units refusal c.args.hand.now c.refuse.new.hand)
    (λ refusal tells. tells c.args.units.now.units c.args.hand.now c.requires.many (c.place_all.ensures.no_room told) (c.place_all.ensures.so_far told))
    c.refuse.ensures.no_room

pub returns-in-Err-NoRoom-clause-no_memory : goal.returns-in-Err-NoRoom-clause-no_memory
returns-in-Err-NoRoom-clause-no_memory g c =
    let place_of = g.S.Slot.place_of in
    let t = c.args.request.now in
    let slots = slots_of c.place_all.new.group in
    let told : IsErrOf c.place_all.result NoRoom = search rules in
    if_no_memory c.refuse.result (LosesSlots place_of t.shape c.args.hand.now c.refuse.new.hand)
    (loses-slots place_of t slots c.args.hand.now c.place_all.new.hand c.refuse.new.hand
    (none-lost place_of t slots c.args.hand.now c.place_all.new.hand (c.place_all.ensures.so_far told).account) c.refuse.ensures.back)

pub returns-in-Err-NoMemory-clause-no_memory : goal.returns-in-Err-NoMemory-clause-no_memory
returns-in-Err-NoMemory-clause-no_memory g c =
    let told : IsErrOf c.place_all.result NoMemory = search rules in
    loses-slots g.S.Slot.place_of c.args.request.now (slots_of c.place_all.new.group) c.args.hand.now c.place_all.new.hand c.refuse-in-Err-NoMemory.new.hand
    (c.place_all.ensures.lost told) c.refuse-in-Err-NoMemory.ensures.back

pub returns-in_default-clause-no_memory : goal.returns-in_default-clause-no_memory
returns-in_default-clause-no_memory g c = loses-none g.S.Slot.place_of c.args.request.now.shape c.args.hand.now

pub returns-in_default-clause-once : goal.returns-in_default-clause-once
returns-in_default-clause-once g c = tries-none g.S.Slot.place_of c.args.request.now.shape c.args.hand.now

pub returns-in-Ok-place_all-clause-once : goal.returns-in-Ok-place_all-clause-once
returns-in-Ok-place_all-clause-once g c =
    tries-once g.S.Slot.place_of c.args.request.now.shape c.place_all.new.group.search c.args.hand.now c.place_all.new.hand c.place_all.new.hand c.place_all.ensures.once (λ d of. inl refl)

pub returns-in-Err-NoRoom-clause-once : goal.returns-in-Err-NoRoom-clause-once
returns-in-Err-NoRoom-clause-once g c =
    tries-once g.S.Slot.place_of c.args.request.now.shape c.place_all.new.group.search c.args.hand.now c.place_all.new.hand c.refuse.new.hand c.place_all.ensures.once c.refuse.ensures.once

pub returns-in-Err-NoMemory-clause-once : goal.returns-in-Err-NoMemory-clause-once
returns-in-Err-NoMemory-clause-once g c =
    tries-once g.S.Slot.place_of c.args.request.now.shape c.place_all.new.group.search c.args.hand.now c.place_all.new.hand c.refuse-in-Err-NoMemory.new.hand c.place_all.ensures.once c.refuse-in-Err-NoMemory.ensures.once
