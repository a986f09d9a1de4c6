use Rattle.std.proofs.Common.{refl, rules, ◌∙◌}
use Rattle.turn_cell.proofs.ViewLemmas.{me_is}
use Rattle.turn_cell.proofs.TicketDrawn.{draws_as, drawn, drawn_keeps}
use Rattle.turn_cell.proofs.seat.Seat.draw.Goals as goal

pub loop-init : goal.loop-init
loop-init g c = ((refl, refl), me_is _ c.args.self.now.active _ c.requires.idle.1)

pub compare_exchange-found-requires : goal.compare_exchange-found-requires
compare_exchange-found-requires g c = (c.loop.invariant.0.0 ∙ c.requires.own, search rules, draws_as _ _ _ _ _ _ _ _ _ _ _ c.loop.invariant.1 c.requires.idle.0)

pub invariant_of-self : goal.invariant_of-self
invariant_of-self g c =
    let keeps = drawn_keeps _ _ _ _ _ _ c.loop.self.numbered c.loop.invariant.1 c.requires.idle.0 c.compare_exchange-found.ensures.2 in
    record { active = keeps.0; numbered = keeps.1; few = c.loop.self.few }

pub returns-then-found-ticket-clause-same : goal.returns-then-found-ticket-clause-same
returns-then-found-ticket-clause-same g c = (c.compare_exchange-found.ensures.0 ∙ c.loop.invariant.0.0, c.loop.invariant.0.1)

pub returns-then-found-ticket-clause-drawn : goal.returns-then-found-ticket-clause-drawn
returns-then-found-ticket-clause-drawn g c = (drawn _ _ _ _ _ c.loop.invariant.1 c.requires.idle.0 c.compare_exchange-found.ensures.2).0 c.if-found-ticket.true
