-- The slots are those of the order, or all went back.
use Rattle.std.proofs.Common.{inl, refl, sym, ap, subst, ◌∙◌, arith}
use Rattle.std.proofs.lemmas.Bool.{and_parts}
use Rattle.domains.specs.Drive.{is_in}
use Rattle.domains.specs.DriveSet.{has}
use Rattle.placement_order.proofs.GroupChanges.{is_left-parts}
use Rattle.fabric.specs.Views.{fabric_view}
use Rattle.slot_search.specs.HandSeats.{AreOfCluster, ReturnsOnce, drives_at}
use Rattle.placement.specs.Draws.{Draws}
use Rattle.slot_search.specs.Searches.{request_of}
use Rattle.placement.proofs.GroupRefused.{draws-lost, loses-none}
use Rattle.slot_search.proofs.SearchEnd.{drew, may_give}
use Rattle.placement.proofs.DrawEnd.{draws, no_room}
use Rattle.slot_search.proofs.SeatTurns.{tries-none, tries-once}
use Rattle.placement.proofs.draw_call.draw_by.Goals as goal

pub returns-then-len-from-clause-ok : goal.returns-then-len-from-clause-ok
returns-then-len-from-clause-ok g c =
    let place_of = g.S.Slot.place_of in
    let last = c.draw_all.new.search in
    let long = last.slots.ok in
    subst (λ slots. Draws place_of (request_of c.args.request.now) c.args.request.now.count slots c.args.hand.now c.draw_all.new.hand) (sym c.from_vec.ensures)
    (draws place_of (fabric_view c.args.fabric.now) c.args.request.now c.in-Ok.search last c.args.hand.now c.draw_all.new.hand c.requires.barred c.in-Ok.ensures
    c.draw_all.ensures.keeps c.draw_all.ensures.order (omega (arith, long)))

pub release_all-requires-clause-places : goal.release_all-requires-clause-places
release_all-requires-clause-places g c κs bounds k default within =
    let place_of = g.S.Slot.place_of in
    let last = c.draw_all.new.search in
    subst (λ s. AreOfCluster place_of s last.slots.items) (sym c.requires.shape)
    (drew place_of (fabric_view c.args.fabric.now) c.args.request.now c.in-Ok.search last c.args.hand.now c.draw_all.new.hand c.requires.barred c.in-Ok.ensures
    c.draw_all.ensures.keeps c.draw_all.ensures.order).places k default within

pub release_all-requires-clause-apart : goal.release_all-requires-clause-apart
release_all-requires-clause-apart g c κs bounds =
    (may_give g.S.Slot.place_of (fabric_view c.args.fabric.now) c.args.request.now c.in-Ok.search c.draw_all.new.search c.args.hand.now c.draw_all.new.hand c.requires.barred
    c.in-Ok.ensures c.draw_all.ensures.keeps c.draw_all.ensures.order).apart

pub release_all-requires-clause-up : goal.release_all-requires-clause-up
release_all-requires-clause-up g c κs bounds d there =
    let t = c.args.request.now in
    let last = c.draw_all.new.search in
    let may = may_give g.S.Slot.place_of (fabric_view c.args.fabric.now) t c.in-Ok.search last c.args.hand.now c.draw_all.new.hand c.requires.barred c.in-Ok.ensures
    c.draw_all.ensures.keeps c.draw_all.ensures.order in
    let usable = (is_left-parts (request_of t) (is_in (drives_at last.empty.items)) d (may.left d there)).0 in
    ap (λ u. has u d) (sym c.requires.up) ∙ (and_parts (has t.allowed d) (has t.up d) usable).1

pub returns-clause-no_room : goal.returns-clause-no_room
returns-clause-no_room g c =
    let place_of = g.S.Slot.place_of in
    let last = c.draw_all.new.search in
    let long = last.slots.ok in
    let count = c.len-got.ensures in
    no_room place_of (fabric_view c.args.fabric.now) c.args.request.now c.in-Ok.search last c.args.hand.now c.draw_all.new.hand c.requires.barred c.in-Ok.ensures
    c.draw_all.ensures.keeps c.draw_all.ensures.order (omega (arith, long)) c.requires.shape c.release_all.new.hand c.release_all.ensures.others
    c.release_all.ensures.yard (c.release_all.ensures.all_back c.if-not-release_all.false) _ refl (omega (arith, long, count)) c.from_vec-2.ensures c.new-2.ensures

pub returns-then-not-release_all-clause-no_memory : goal.returns-then-not-release_all-clause-no_memory
returns-then-not-release_all-clause-no_memory g c =
    let place_of = g.S.Slot.place_of in
    let last = c.draw_all.new.search in
    draws-lost place_of (fabric_view c.args.fabric.now).shape c.args.request.now.shape last.slots.items c.args.hand.now c.draw_all.new.hand c.release_all.new.hand c.requires.shape
    (drew place_of (fabric_view c.args.fabric.now) c.args.request.now c.in-Ok.search last c.args.hand.now c.draw_all.new.hand c.requires.barred c.in-Ok.ensures
    c.draw_all.ensures.keeps c.draw_all.ensures.order).account c.release_all.ensures.back

pub returns-in_default-clause-no_memory : goal.returns-in_default-clause-no_memory
returns-in_default-clause-no_memory g c = loses-none g.S.Slot.place_of c.args.request.now.shape c.args.hand.now

pub returns-in_default-clause-once : goal.returns-in_default-clause-once
returns-in_default-clause-once g c = tries-none g.S.Slot.place_of c.args.request.now.shape c.args.hand.now

pub returns-then-len-from-clause-once : goal.returns-then-len-from-clause-once
returns-then-len-from-clause-once g c =
    tries-once g.S.Slot.place_of c.args.request.now.shape c.draw_all.new.search c.args.hand.now c.draw_all.new.hand c.draw_all.new.hand c.draw_all.ensures.keeps.asked
    (λ d of. inl refl)

pub returns-then-not-release_all-clause-once : goal.returns-then-not-release_all-clause-once
returns-then-not-release_all-clause-once g c =
    tries-once g.S.Slot.place_of c.args.request.now.shape c.draw_all.new.search c.args.hand.now c.draw_all.new.hand c.release_all.new.hand c.draw_all.ensures.keeps.asked
    (subst (λ s. ReturnsOnce g.S.Slot.place_of s c.draw_all.new.hand c.release_all.new.hand) c.requires.shape c.release_all.ensures.once)

pub returns-clause-once : goal.returns-clause-once
returns-clause-once g c =
    tries-once g.S.Slot.place_of c.args.request.now.shape c.draw_all.new.search c.args.hand.now c.draw_all.new.hand c.release_all.new.hand c.draw_all.ensures.keeps.asked
    (subst (λ s. ReturnsOnce g.S.Slot.place_of s c.draw_all.new.hand c.release_all.new.hand) c.requires.shape c.release_all.ensures.once)
