-- The visits of a round are made one by one.
use Rattle.std.proofs.Common.{ℕ, ◌+◌, ◌<◌, ◌≤◌, List, ◌∷◌, ◌++◌, sym, subst}
use Rattle.fabric.specs.Views.{fabric_view}
use Rattle.placement_order.specs.Order.{visits_in}
use Rattle.slot_search.specs.Searches.{IsBefore, request_of}
use Rattle.slot_search.proofs.SearchSteps.{Keeps-trans}
use Rattle.placement_order.proofs.VisitsLeft.{nodes_left, nodes_left-end, nodes_left-next}
use Rattle.slot_search.proofs.search.draw_round.Goals as goal

pub loop-step-preserved : goal.loop-step-preserved
loop-step-preserved g c =
    let place_of = g.S.Slot.place_of in
    let t = c.args.request.now in
    record {
      keeps = Keeps-trans place_of (fabric_view c.args.fabric.now) t c.args.search.now c.loop-step.search c.visit.new.search
          c.args.hand.now c.loop-step.hand c.visit.new.hand c.loop-step.invariant.keeps c.visit.ensures.keeps;
      order = λ before rest far.
          c.visit.ensures.order before (visits_in c.args.round (nodes_left (request_of t) (c.loop-step.step + 1)) ++ rest)
          (subst (λ (node : ℕ). IsBefore place_of t before ((c.args.round, node) ∷ visits_in c.args.round (nodes_left (request_of t) (c.loop-step.step + 1)) ++ rest) c.loop-step.search) (sym c.node.ensures.value)
          (subst (λ (nodes : List ℕ). IsBefore place_of t before (visits_in c.args.round nodes ++ rest) c.loop-step.search)
          (nodes_left-next (request_of t) c.loop-step.step (subst (λ n. c.loop-step.step < n) c.nodes-step-end.ensures.value c.loop-step-test.true))
          (c.loop-step.invariant.order before rest far)));
    }

pub returns-clause-order : goal.returns-clause-order
returns-clause-order g c before rest far =
    let place_of = g.S.Slot.place_of in
    let t = c.args.request.now in
    subst (λ (nodes : List ℕ). IsBefore place_of t before (visits_in c.args.round nodes ++ rest) c.loop-step.search)
    (nodes_left-end (request_of t) c.loop-step.step (subst (λ n. n ≤ c.loop-step.step) c.nodes-step-end.ensures.value c.loop-step-test.false))
    (c.loop-step.invariant.order before rest far)
