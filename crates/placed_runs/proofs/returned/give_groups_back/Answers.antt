use Rattle.std.proofs.Common.{rules, subst, ◌∙◌, arith}
use Rattle.std.specs.List.{AllByRecursion}
use Rattle.std.proofs.lemmas.Bool.{both_ways}
use Rattle.std.proofs.lemmas.List.{nil_from_length}
use Rattle.fabric.specs.Views.{fabric_view}
use Rattle.placed_runs.specs.PlacedRuns.{MayGroupGoBack, slots_of_groups}
use Rattle.placed_runs.proofs.GivenBack.{less_at_end, less_by_last, with_last}
use Rattle.placed_runs.proofs.returned.give_groups_back.Goals as goal

pub loop-group-preserved-then-all : goal.loop-group-preserved-then-all
loop-group-preserved-then-all g c = record {
  keeps = search rules;
  yard = c.give_group_back-went.ensures.yard ∙ c.loop-group.invariant.yard;
  back = (with_last (MayGroupGoBack g.S.Slot.place_of (fabric_view c.args.fabric.now).shape c.args.view.now) c.pop.new.self.items c.in-Some.group
      (subst (AllByRecursion (MayGroupGoBack g.S.Slot.place_of (fabric_view c.args.fabric.now).shape c.args.view.now)) c.in-Some.ensures.items c.loop-group.invariant.back)).0;
  less = λ went. less_by_last g.S.Slot.place_of (fabric_view c.args.fabric.now).shape c.args.groups c.loop-group.groups.items c.pop.new.self.items c.in-Some.group
      c.args.hand.now c.loop-group.hand c.give_group_back-went.new.hand c.in-Some.ensures.items (c.loop-group.invariant.less c.if-all.true) (c.give_group_back-went.ensures.all went);
}

pub loop-group-preserved : goal.loop-group-preserved
loop-group-preserved g c = record {
  keeps = search rules;
  yard = c.give_group_back-went.ensures.yard ∙ c.loop-group.invariant.yard;
  back = (with_last (MayGroupGoBack g.S.Slot.place_of (fabric_view c.args.fabric.now).shape c.args.view.now) c.pop.new.self.items c.in-Some.group
      (subst (AllByRecursion (MayGroupGoBack g.S.Slot.place_of (fabric_view c.args.fabric.now).shape c.args.view.now)) c.in-Some.ensures.items c.loop-group.invariant.back)).0;
  less = λ all. absurd (both_ways c.loop-group.all c.if-all.false all);
}

pub returns-clause-all : goal.returns-clause-all
returns-clause-all g c = λ all.
    let ended = (rw c.in_default.is at c.pop.ensures.cases).0 in
    let long = c.loop-group.groups.ok in
    less_at_end g.S.Slot.place_of (fabric_view c.args.fabric.now).shape (slots_of_groups c.args.groups) c.loop-group.groups.items c.args.hand.now c.loop-group.hand
    (nil_from_length c.loop-group.groups.items (omega (arith, ended, long))) (c.loop-group.invariant.less all)
