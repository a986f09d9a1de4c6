use Rattle.std.proofs.Common.{rules, ◌≡◌, ◌∷◌, ◌++◌, [], length, refl, sym, ap, subst, arith, ◌∙◌}
use Rattle.std.specs.Prelude.{vec_capacity}
use Rattle.fabric_uses.proofs.TraderHands.{HandsTaken, HandsTaken-all, HandsTaken-count, HandsTaken-next, none_of, on_ok_from}
use Rattle.fabric_uses.proofs.traders.into_hands.Goals as goal

pub loop-trader-init : goal.loop-trader-init
loop-trader-init g c =
    let is : c.args.traders.items ≡ c.into_iter-trader-iterator.result.rest.items = search rules in
    (record { taken = []; split = is; hands_are = c.requires.none; well = λ ok. tt }, refl)

pub push_reserved-requires : goal.push_reserved-requires
push_reserved-requires g c =
    let count = HandsTaken-count _ _ _ _ c.loop-trader.invariant.0 in
    let is = ap length c.in-Some.ensures.steps.0 in
    let room = c.requires.room in
    let same = c.loop-trader.invariant.1 in
    let long = c.loop-trader.hands.ok in
    omega (arith, count, is, room, same, long)

pub loop-trader-preserved : goal.loop-trader-preserved
loop-trader-preserved g c =
    let is : c.loop-trader.trader-iterator.rest.items ≡ c.in-Some.trader ∷ c.next.new.self.rest.items = search rules in
    let pushed : c.push_reserved.new.self.items ≡ c.loop-trader.hands.items ++ c.in-Some.trader.hand ∷ [] = search rules in
    let room : vec_capacity c.push_reserved.new.self ≡ vec_capacity c.loop-trader.hands = search rules in
    let was = subst (λ l. HandsTaken c.args.traders.items l c.loop-trader.hands.items c.loop-trader.all) is c.loop-trader.invariant.0 in (
      subst (λ l. HandsTaken c.args.traders.items c.next.new.self.rest.items l c.both-all.result) (sym pushed)
          (HandsTaken-next _ _ c.in-Some.trader _ _ _ was c.both-all.ensures),
      room ∙ c.loop-trader.invariant.1,
    )

pub returns-clause-hands : goal.returns-clause-hands
returns-clause-hands g c =
    let count = c.loop-trader.trader-iterator.rest.ok.0 in
    let ended = c.in-None.ensures.steps.0 in
    let none = none_of c.loop-trader.trader-iterator.rest.items (omega (arith, count, ended)) in
    (HandsTaken-all _ _ _ _ none c.loop-trader.invariant.0).0

pub returns-clause-done : goal.returns-clause-done
returns-clause-done g c =
    let count = c.loop-trader.trader-iterator.rest.ok.0 in
    let ended = c.in-None.ensures.steps.0 in
    let none = none_of c.loop-trader.trader-iterator.rest.items (omega (arith, count, ended)) in
    on_ok_from c.loop-trader.all (HandsTaken-all _ _ _ _ none c.loop-trader.invariant.0).1
