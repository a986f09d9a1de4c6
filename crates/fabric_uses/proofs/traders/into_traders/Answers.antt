use Rattle.std.proofs.Common.{◌≡◌, ◌∷◌, ◌++◌, [], length, map, sym, ap, arith, ◌∙◌}
use Rattle.std.proofs.lemmas.List.{length-append, length-map}
use Rattle.fabric_uses.proofs.TraderHands.{hands_push}
use Rattle.fabric_uses.proofs.traders.into_traders.Goals as goal

pub push_reserved-requires : goal.push_reserved-requires
push_reserved-requires g c =
    let is = ap length c.in-Some.ensures.steps.0 in
    let all = ap length c.loop-hand.invariant.0 in
    let parts = length-append (map (λ trader. trader.hand) c.loop-hand.traders.items) c.loop-hand.hand-iterator.rest.items in
    let many = length-map c.loop-hand.traders.items (λ trader. trader.hand) in
    let room = c.requires.room in
    let same = c.loop-hand.invariant.1 in
    let long = c.loop-hand.traders.ok in
    omega (arith, is, all, parts, many, room, same, long)

pub loop-hand-preserved : goal.loop-hand-preserved
loop-hand-preserved g c = (
  ap (λ l. map (λ trader. trader.hand) l ++ c.next.new.self.rest.items) c.push_reserved.ensures.items
      ∙ (hands_push c.loop-hand.traders.items _ c.next.new.self.rest.items
      ∙ (ap (λ l. map (λ trader. trader.hand) c.loop-hand.traders.items ++ l) (sym c.in-Some.ensures.steps.0) ∙ c.loop-hand.invariant.0)),
  c.push_reserved.ensures.capacity ∙ c.loop-hand.invariant.1,
)
