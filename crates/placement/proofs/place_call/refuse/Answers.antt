-- The slots of the group go back, and the refusal tells why.
use Rattle.std.proofs.Common.{◌≡◌, true, false, length, refl, sym, ap, subst, ◌∙◌, arith}
use Rattle.std.proofs.lemmas.Bool.{and_parts}
use Rattle.domains.specs.Drive.{AreApart, Drive, is_in}
use Rattle.domains.specs.DriveSet.{has}
use Rattle.domains.specs.Shape.{is_of}
use Rattle.fabric.specs.Views.{fabric_view, seat_on}
use Rattle.placement_order.proofs.GroupChanges.{is_left-parts}
use Rattle.slot_search.specs.HandSeats.{AreOfCluster, ReturnsOnce, drives_of_all}
use Rattle.placement.specs.PlacedGroups.{spent_by}
use Rattle.slot_search.specs.Searches.{GivesAllBack, request_of}
use Rattle.placement.proofs.GroupRefused.{gives-back-as, tells_no_room}
use Rattle.placement.proofs.place_call.refuse.Goals as goal

pub overflow_cast-got : goal.overflow_cast-got
overflow_cast-got g c =
    let few = c.requires.in_order.few in
    let all = ap length c.take_down.ensures.all in
    let ok = c.take_down.new.to.ok in
    let count = c.len-got.ensures in
    let most = c.from-most.ensures in
    let low = c.from-most.type_inv in
    omega (arith, few, all, ok, count, most, low)

pub release_all-requires-clause-places : goal.release_all-requires-clause-places
release_all-requires-clause-places g c κs bounds =
    subst (λ s. AreOfCluster g.S.Slot.place_of s c.take_down.new.to.items) (sym c.requires.shape)
    (subst (AreOfCluster g.S.Slot.place_of c.args.request.now.shape) (sym c.take_down.ensures.all) c.requires.in_order.places)

pub release_all-requires-clause-apart : goal.release_all-requires-clause-apart
release_all-requires-clause-apart g c κs bounds =
    subst (λ xs. AreApart (drives_of_all g.S.Slot.place_of xs)) (sym c.take_down.ensures.all) c.requires.in_order.may.apart

pub release_all-requires-clause-up : goal.release_all-requires-clause-up
release_all-requires-clause-up g c κs bounds d there =
    let t = c.args.request.now in
    let p = c.args.group in
    let mine = ap (λ xs. is_in (drives_of_all g.S.Slot.place_of xs) d) (sym c.take_down.ensures.all) ∙ there in
    let usable = (is_left-parts (request_of t) (spent_by p.failed.items p.search.empty.items) d (c.requires.in_order.may.left d mine)).0 in
    ap (λ u. has u d) (sym c.requires.up) ∙ (and_parts (has t.allowed d) (has t.up d) usable).1

pub returns-then-not-release_all-clause-back : goal.returns-then-not-release_all-clause-back
returns-then-not-release_all-clause-back g c =
    gives-back-as g.S.Slot.place_of _ _ _ _ c.args.hand.now c.release_all.new.hand c.requires.shape c.take_down.ensures.all c.release_all.ensures.back

pub returns-clause-back : goal.returns-clause-back
returns-clause-back g c =
    gives-back-as g.S.Slot.place_of _ _ _ _ c.args.hand.now c.release_all.new.hand c.requires.shape c.take_down.ensures.all c.release_all.ensures.back

pub returns-clause-no_room : goal.returns-clause-no_room
returns-clause-no_room g c =
    let place_of = g.S.Slot.place_of in
    let f = fabric_view c.args.fabric.now in
    let ok = c.take_down.new.to.ok in
    let count = c.len-got.ensures in
    let all = ap length c.take_down.ensures.all in
    tells_no_room place_of g.S.Slot.content g.S.Slot.len_of g.S.Slot.faults f c.args.request.now c.args.group c.requires.in_order c.requires.shape c.args.hand.now c.release_all.new.hand
    (subst (λ xs. (e : Drive) → is_of f.shape e ≡ true → is_in (drives_of_all place_of xs) e ≡ false → seat_on f.shape c.release_all.new.hand e ≡ seat_on f.shape c.args.hand.now e)
    c.take_down.ensures.all c.release_all.ensures.others)
    c.release_all.ensures.yard
    (subst (λ xs. GivesAllBack place_of f.shape xs c.args.hand.now c.release_all.new.hand) c.take_down.ensures.all (c.release_all.ensures.all_back c.if-not-release_all.false))
    _ refl (omega (arith, ok, count, all)) c.from_vec.ensures c.from_vec-2.ensures

pub returns-then-not-release_all-clause-once : goal.returns-then-not-release_all-clause-once
returns-then-not-release_all-clause-once g c =
    subst (λ s. ReturnsOnce g.S.Slot.place_of s c.args.hand.now c.release_all.new.hand) c.requires.shape c.release_all.ensures.once

pub returns-clause-once : goal.returns-clause-once
returns-clause-once g c =
    subst (λ s. ReturnsOnce g.S.Slot.place_of s c.args.hand.now c.release_all.new.hand) c.requires.shape c.release_all.ensures.once
