use Rattle.std.proofs.Common.{[], reverse, sym, subst, arith}
use Rattle.std.proofs.lemmas.Bool.{both_ways}
use Rattle.std.proofs.lemmas.List.{nil_from_length}
use Rattle.fabric.specs.Views.{fabric_view}
use Rattle.write_path.specs.Releases.{slots_in}
use Rattle.write_path.proofs.ReleasedSlots.{ReleasedSoFar, released_next, next_place, released_all, released_none}
use Rattle.write_path.proofs.release.release_slots_back.Given.{Over}
use Rattle.write_path.proofs.release.release_slots_back.Goals as goal

pub loop-held-init : goal.loop-held-init
loop-held-init g c = released_none g.S.Slot.place_of (fabric_view c.args.fabric.now) c.args.view.now (reverse c.args.slots.items) c.args.hand.now c.requires.hand c.requires.places

pub release_slot-went-requires-clause-place : goal.release_slot-went-requires-clause-place
release_slot-went-requires-clause-place g c κs bounds =
    next_place g.S.Slot.place_of (fabric_view c.args.fabric.now) c.args.view.now (reverse c.args.slots.items) c.args.hand.now
    c.loop-held.slots.items c.pop.new.self.items c.in-Some.held c.loop-held.all c.loop-held.hand c.in-Some.ensures.items c.loop-held.invariant

pub loop-held-preserved-then-all : goal.loop-held-preserved-then-all
loop-held-preserved-then-all g c =
    released_next g.S.Slot.place_of (fabric_view c.args.fabric.now) c.args.view.now (reverse c.args.slots.items) c.args.hand.now
    c.loop-held.slots.items c.pop.new.self.items c.in-Some.held c.loop-held.all c.release_slot-went.result c.release_slot-went.result c.loop-held.hand c.release_slot-went.new.hand c.in-Some.ensures.items
    c.loop-held.invariant c.release_slot-went.ensures.keeps c.release_slot-went.ensures.released (λ went. (c.if-all.true, went))

pub loop-held-preserved : goal.loop-held-preserved
loop-held-preserved g c =
    released_next g.S.Slot.place_of (fabric_view c.args.fabric.now) c.args.view.now (reverse c.args.slots.items) c.args.hand.now
    c.loop-held.slots.items c.pop.new.self.items c.in-Some.held c.loop-held.all c.release_slot-went.result c.loop-held.all c.loop-held.hand c.release_slot-went.new.hand c.in-Some.ensures.items
    c.loop-held.invariant c.release_slot-went.ensures.keeps c.release_slot-went.ensures.released (λ went. absurd (both_ways c.loop-held.all c.if-all.false went))

done : (g : Over) (c : goal.After-destroy_empty g) → ReleasedSoFar g.S.Slot.place_of (fabric_view c.args.fabric.now) c.args.view.now (reverse c.args.slots.items) c.args.hand.now [] c.loop-held.all c.loop-held.hand
done g c =
    let ended = (rw c.in_default.is at c.pop.ensures.cases).0 in
    let long = c.loop-held.slots.ok in
    subst (λ xs. ReleasedSoFar g.S.Slot.place_of (fabric_view c.args.fabric.now) c.args.view.now (reverse c.args.slots.items) c.args.hand.now (reverse xs) c.loop-held.all c.loop-held.hand)
    (nil_from_length c.loop-held.slots.items (omega (arith, ended, long))) c.loop-held.invariant

pub returns-clause-keeps : goal.returns-clause-keeps
returns-clause-keeps g c = (done g c).keeps

pub returns-clause-all : goal.returns-clause-all
returns-clause-all g c all_went = released_all g.S.Slot.place_of (fabric_view c.args.fabric.now) c.args.view.now (reverse c.args.slots.items) c.args.hand.now c.loop-held.all c.loop-held.hand (done g c) all_went
