use Rattle.fabric.specs.Views.{fabric_view}
use Rattle.fabric_uses.specs.Traders.{AllTraded}
use Rattle.fabric_uses.proofs.TraderHands.{hands_after}
use Rattle.fabric_uses.proofs.traders.trade_apart.Given.{Over}
use Rattle.fabric_uses.proofs.traders.trade_apart.Goals as goal

traded : (g : Over) (c : goal.After-map_each g) → AllTraded (fabric_view c.args.fabric.now) c.args.traders.items c.map_each.result.items
traded g c = record { count = c.map_each.ensures.mapped.count; each = λ k b a at there. c.map_each.ensures.mapped.each k b a at there }

pub returns-clause-traded : goal.returns-clause-traded
returns-clause-traded g c = traded g c

pub returns-clause-hands : goal.returns-clause-hands
returns-clause-hands g c are = hands_after (fabric_view c.args.fabric.now) c.args.traders.items c.map_each.result.items (traded g c) are
