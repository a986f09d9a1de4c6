-- The rounds are made one by one.
use Rattle.std.proofs.Common.{ℕ, ◌+◌, ◌<◌, List, subst}
use Rattle.fabric.specs.Views.{fabric_view}
use Rattle.slot_search.specs.Searches.{IsBefore, request_of}
use Rattle.slot_search.proofs.SearchSteps.{Keeps-trans}
use Rattle.placement_order.proofs.VisitsLeft.{visits_left, visits_left-next}
use Rattle.slot_search.proofs.search.draw_all.Goals as goal

pub loop-round-preserved : goal.loop-round-preserved
loop-round-preserved g c =
    let place_of = g.S.Slot.place_of in
    let t = c.args.request.now in
    record {
      keeps = Keeps-trans place_of (fabric_view c.args.fabric.now) t c.args.search.now c.loop-round.search c.draw_round.new.search
          c.args.hand.now c.loop-round.hand c.draw_round.new.hand c.loop-round.invariant.keeps c.draw_round.ensures.keeps;
      order = λ before far.
          c.draw_round.ensures.order before (visits_left (request_of t) (c.loop-round.round + 1))
          (subst (λ (visits : List (ℕ × ℕ)). IsBefore place_of t before visits c.loop-round.search)
          (visits_left-next (request_of t) c.loop-round.round (subst (λ n. c.loop-round.round < n) c.k-round-end.ensures.value c.loop-round-test.true))
          (c.loop-round.invariant.order before far));
    }
