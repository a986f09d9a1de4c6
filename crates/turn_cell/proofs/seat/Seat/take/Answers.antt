use Rattle.std.proofs.Common.{refl, rules, sym, ap, ◌∷◌, ◌∙◌, Some}
use Rattle.atomic_table.specs.Table.{rest}
use Rattle.turn_cell.proofs.ViewLemmas.{me_is, me_keeps}
use Rattle.turn_cell.proofs.ValueTaken.{takes_as, taken_at, takes_done, swapped}
use Rattle.turn_cell.proofs.seat.Seat.take.Goals as goal

pub loop-init : goal.loop-init
loop-init g c = ((refl, refl), me_is _ c.args.self.now.active _ c.requires.drawn.1)

pub load-served-requires : goal.load-served-requires
load-served-requires g c = (c.loop.invariant.0.0 ∙ c.requires.own, search rules, takes_as _ _ _ _ _ _ _ _ _ _ _ c.loop.invariant.1 c.requires.drawn.0)

pub exchange-value-requires : goal.exchange-value-requires
exchange-value-requires g c =
    let told = (taken_at _ _ _ _ _ _ _ _ _ c.loop.invariant.1 c.requires.drawn.0 c.load-served.ensures.2).0 c.if-served-ticket.true in
    let held = ap (λ m. m.1) told.1 in
    (c.load-served.ensures.0 ∙ (c.loop.invariant.0.0 ∙ c.requires.own), (Some told.0, held ∙ ap (λ xs. (0, Some told.0) ∷ rest xs) (sym held)))

pub invariant_of-self : goal.invariant_of-self
invariant_of-self g c =
    let told = (taken_at _ _ _ _ _ _ _ _ _ c.loop.invariant.1 c.requires.drawn.0 c.load-served.ensures.2).0 c.if-served-ticket.true in
    let done = swapped _ _ _ _ _ _ told.1 c.exchange-value.ensures.2 c.exchange-value.ensures.3 in
    let keeps = me_keeps _ _ _ _ _ _ _ c.loop.self.numbered c.loop.invariant.1 done.0 refl in
    record { active = keeps.0; numbered = keeps.1; few = c.loop.self.few }

pub returns-then-served-ticket-clause-taken : goal.returns-then-served-ticket-clause-taken
returns-then-served-ticket-clause-taken g c =
    takes_done _ _ _ _ _ _ _ _ _ _ _ _ c.loop.invariant.1 c.requires.drawn.0 c.load-served.ensures.2 c.if-served-ticket.true c.exchange-value.ensures.2 c.exchange-value.ensures.3 c.unwrap.ensures
