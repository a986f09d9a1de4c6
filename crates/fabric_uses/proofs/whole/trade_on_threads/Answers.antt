use Rattle.std.proofs.Common.{rules, ◌≡◌, map, ◌∙◌}
use Rattle.fabric.specs.Views.{fabric_view}
use Rattle.fabric_uses.specs.Traders.{AllDone}
use Rattle.fabric_uses.proofs.NoneHeld.{none_held}
use Rattle.fabric_uses.proofs.TraderHands.{each_hand}
use Rattle.fabric_uses.proofs.whole.trade_on_threads.Goals as goal

pub trade_apart-traders-requires-after_bounds : goal.trade_apart-traders-requires-after_bounds
trade_apart-traders-requires-after_bounds g c κs within =
    each_hand (fabric_view c.in_ok-fabric.fabric) c.into_traders-traders.result.items c.in_ok-fabric.hands c.into_traders-traders.ensures c.in_ok-fabric.ensures.hands

pub returns-in-Ok-done : goal.returns-in-Ok-done
returns-in-Ok-done g c =
    let after = c.trade_apart-traders.result.items in
    let done : AllDone after = let h = c.into_hands-hands.ensures.done in search rules in
    let now : c.from_vec.result ≡ map (λ trader. trader.hand) after = search rules in
    none_held g.S.Slot.place_of (fabric_view c.in_ok-fabric.fabric) c.args.shape 0 c.into_traders-traders.result.items after c.in_ok-fabric.hands c.from_vec.result
    c.close-parts.result.pools c.close-parts.result.yard c.close-parts.result.retired
    c.in_ok-fabric.ensures.shape c.into_traders-traders.ensures c.in_ok-fabric.ensures.new c.trade_apart-traders.ensures.traded done now c.close-parts.ensures.exact
