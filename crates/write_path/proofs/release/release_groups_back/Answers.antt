use Rattle.std.proofs.Common.{[], reverse, sym, subst, arith}
use Rattle.std.proofs.lemmas.Bool.{both_ways}
use Rattle.std.proofs.lemmas.List.{nil_from_length}
use Rattle.fabric.specs.Views.{fabric_view}
use Rattle.write_path.specs.Releases.{ReleasesEach, slots_in}
use Rattle.slot_search.specs.HandSeats.{AreOfCluster}
use Rattle.write_path.proofs.ReleasedSlots.{ReleasedSoFar, released_group, group_places, released_all, released_none}
use Rattle.write_path.proofs.release.release_groups_back.Given.{Over}
use Rattle.write_path.proofs.release.release_groups_back.Goals as goal

pub loop-group-init : goal.loop-group-init
loop-group-init g c = released_none g.S.Slot.place_of (fabric_view c.args.fabric.now) c.args.view.now (slots_in (reverse c.args.groups.items)) c.args.hand.now c.requires.hand c.requires.places

pub release_slots-went-requires-clause-places : goal.release_slots-went-requires-clause-places
release_slots-went-requires-clause-places g c κs bounds =
    subst (λ l. AreOfCluster g.S.Slot.place_of (fabric_view c.args.fabric.now).shape l) (sym c.into_slots.ensures)
    (group_places g.S.Slot.place_of (fabric_view c.args.fabric.now) c.args.view.now (slots_in (reverse c.args.groups.items)) c.args.hand.now
    c.loop-group.groups.items c.pop.new.self.items c.in-Some.group c.loop-group.all c.loop-group.hand c.in-Some.ensures.items c.loop-group.invariant)

pub loop-group-preserved-then-all : goal.loop-group-preserved-then-all
loop-group-preserved-then-all g c =
    released_group g.S.Slot.place_of (fabric_view c.args.fabric.now) c.args.view.now (slots_in (reverse c.args.groups.items)) c.args.hand.now
    c.loop-group.groups.items c.pop.new.self.items c.in-Some.group c.loop-group.all c.release_slots-went.result c.release_slots-went.result c.loop-group.hand c.release_slots-went.new.hand c.in-Some.ensures.items
    c.loop-group.invariant c.release_slots-went.ensures.keeps
    (λ gone. subst (λ l. ReleasesEach g.S.Slot.place_of l (fabric_view c.args.fabric.now).shape c.args.view.now c.loop-group.hand c.release_slots-went.new.hand) c.into_slots.ensures (c.release_slots-went.ensures.all gone))
    (λ went. (c.if-all.true, went))

pub loop-group-preserved : goal.loop-group-preserved
loop-group-preserved g c =
    released_group g.S.Slot.place_of (fabric_view c.args.fabric.now) c.args.view.now (slots_in (reverse c.args.groups.items)) c.args.hand.now
    c.loop-group.groups.items c.pop.new.self.items c.in-Some.group c.loop-group.all c.release_slots-went.result c.loop-group.all c.loop-group.hand c.release_slots-went.new.hand c.in-Some.ensures.items
    c.loop-group.invariant c.release_slots-went.ensures.keeps
    (λ gone. subst (λ l. ReleasesEach g.S.Slot.place_of l (fabric_view c.args.fabric.now).shape c.args.view.now c.loop-group.hand c.release_slots-went.new.hand) c.into_slots.ensures (c.release_slots-went.ensures.all gone))
    (λ went. absurd (both_ways c.loop-group.all c.if-all.false went))

done : (g : Over) (c : goal.After-destroy_empty g) → ReleasedSoFar g.S.Slot.place_of (fabric_view c.args.fabric.now) c.args.view.now (slots_in (reverse c.args.groups.items)) c.args.hand.now [] c.loop-group.all c.loop-group.hand
done g c =
    let ended = (rw c.in_default.is at c.pop.ensures.cases).0 in
    let long = c.loop-group.groups.ok in
    subst (λ xs. ReleasedSoFar g.S.Slot.place_of (fabric_view c.args.fabric.now) c.args.view.now (slots_in (reverse c.args.groups.items)) c.args.hand.now (slots_in (reverse xs)) c.loop-group.all c.loop-group.hand)
    (nil_from_length c.loop-group.groups.items (omega (arith, ended, long))) c.loop-group.invariant

pub returns-clause-keeps : goal.returns-clause-keeps
returns-clause-keeps g c = (done g c).keeps

pub returns-clause-all : goal.returns-clause-all
returns-clause-all g c all_went = released_all g.S.Slot.place_of (fabric_view c.args.fabric.now) c.args.view.now (slots_in (reverse c.args.groups.items)) c.args.hand.now c.loop-group.all c.loop-group.hand (done g c) all_went
