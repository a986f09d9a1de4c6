-- Each turn gives the last slot back.
use Rattle.std.proofs.Common.{[], ap, subst, ◌∙◌, sym, arith}
use Rattle.domains.specs.Drive.{is_in}
use Rattle.slot_search.specs.HandSeats.{drives_of_all}
use Rattle.slot_search.proofs.release.release_all.Given.{Over}
use Rattle.std.proofs.lemmas.Bool.{both_ways}
use Rattle.std.proofs.lemmas.List.{nil_from_length}
use Rattle.fabric.specs.Views.{fabric_view}
use Rattle.slot_search.proofs.ReleasedSlots.{HasReleased, HasReleased-next, HasReleased-none, gives-all_back, gives-back, of_all, place}
use Rattle.slot_search.proofs.release.release_all.Goals as goal

pub loop-held-preserved-then-all_back : goal.loop-held-preserved-then-all_back
loop-held-preserved-then-all_back g c =
    HasReleased-next g.S.Slot.place_of (fabric_view c.args.fabric.now) c.args.slots.items c.args.hand.now c.requires.apart c.loop-held.slots.items c.pop.new.self.items c.in-Some.held
    c.loop-held.all_back c.loop-held.hand c.release-back.new.hand c.in-Some.ensures.items c.loop-held.invariant c.release-back.result c.release-back.result
    (λ went. (c.if-all_back.true, went))
    c.release-back.ensures

pub loop-held-preserved : goal.loop-held-preserved
loop-held-preserved g c =
    HasReleased-next g.S.Slot.place_of (fabric_view c.args.fabric.now) c.args.slots.items c.args.hand.now c.requires.apart c.loop-held.slots.items c.pop.new.self.items c.in-Some.held
    c.loop-held.all_back c.loop-held.hand c.release-back.new.hand c.in-Some.ensures.items c.loop-held.invariant c.release-back.result c.loop-held.all_back
    (λ went. absurd (both_ways c.loop-held.all_back c.if-all_back.false went))
    c.release-back.ensures

pub loop-held-init : goal.loop-held-init
loop-held-init g c = HasReleased-none g.S.Slot.place_of (fabric_view c.args.fabric.now) c.args.slots.items c.args.hand.now c.requires.hand c.requires.places

pub release-back-requires-clause-place : goal.release-back-requires-clause-place
release-back-requires-clause-place g c κs bounds =
    place g.S.Slot.place_of (fabric_view c.args.fabric.now) c.args.slots.items c.args.hand.now c.requires.apart c.loop-held.slots.items c.pop.new.self.items c.in-Some.held
    c.loop-held.all_back c.loop-held.hand c.loop-held.hand c.in-Some.ensures.items c.loop-held.invariant

pub release-back-requires-clause-up : goal.release-back-requires-clause-up
release-back-requires-clause-up g c κs bounds =
    c.requires.up _
    (of_all g.S.Slot.place_of (fabric_view c.args.fabric.now) c.args.slots.items c.args.hand.now c.requires.apart c.loop-held.slots.items c.pop.new.self.items c.in-Some.held
    c.loop-held.all_back c.loop-held.hand c.loop-held.hand c.in-Some.ensures.items c.loop-held.invariant)

module _ (g : Over) (c : goal.After-destroy_empty g) where
  done : HasReleased g.S.Slot.place_of (fabric_view c.args.fabric.now) c.args.slots.items c.args.hand.now [] c.loop-held.all_back c.loop-held.hand
  done =
      let ended = (rw c.in_default.is at c.pop.ensures.cases).0 in
      let long = c.loop-held.slots.ok in
      subst (λ xs. HasReleased g.S.Slot.place_of (fabric_view c.args.fabric.now) c.args.slots.items c.args.hand.now xs c.loop-held.all_back c.loop-held.hand)
      (nil_from_length c.loop-held.slots.items (omega (arith, ended, long))) c.loop-held.invariant

pub returns-clause-back : goal.returns-clause-back
returns-clause-back g c = gives-back g.S.Slot.place_of (fabric_view c.args.fabric.now) c.args.slots.items c.args.hand.now c.loop-held.all_back c.loop-held.hand (done g c)

pub returns-clause-all_back : goal.returns-clause-all_back
returns-clause-all_back g c went =
    gives-all_back g.S.Slot.place_of (fabric_view c.args.fabric.now) c.args.slots.items c.args.hand.now c.loop-held.all_back c.loop-held.hand (done g c) went

pub returns-clause-others : goal.returns-clause-others
returns-clause-others g c e of out =
    (done g c).others e of (ap (λ xs. is_in (drives_of_all g.S.Slot.place_of xs) e) (sym (done g c).split) ∙ out)

pub returns-clause-once : goal.returns-clause-once
returns-clause-once g c = (done g c).once
