use Rattle.std.proofs.Common.{[], arith, refl, sym, ap, append-nil, ◌∙◌}
use Rattle.turn_cell.specs.Seats.{cell_view}
use Rattle.turn_cell.proofs.ClosedValue.{there_is, closed_with}
use Rattle.turn_cell.proofs.ClosedSeats.{whole_of, front, next_idle, is_idle}
use Rattle.turn_cell.proofs.ViewLemmas.{me_is, me_known}
use Rattle.turn_cell.proofs.cell.TurnCell.close.Goals as goal

pub loop-seat-init : goal.loop-seat-init
loop-seat-init g c =
    let cell = cell_view c.args.self in
    let seats = c.requires.seats in
    let first = c.remove-first.result in
    let whole = whole_of cell.seats _ _ first seats.0 c.args.self.some_seats c.remove-first.ensures.value c.remove-first.ensures.items in
    let idle = is_idle cell first (front cell _ _ _ seats.1 whole).0 in
    record {
      gone = [];
      whole = sym (append-nil _);
      same = (refl, refl);
      me = me_is _ first.active _ idle.1;
    }

pub take_in-requires-clause-own : goal.take_in-requires-clause-own
take_in-requires-clause-own g c =
    let cell = cell_view c.args.self in
    let seats = c.requires.seats in
    let i = c.loop-seat.invariant in
    let first = c.remove-first.result in
    let whole = whole_of cell.seats _ _ first seats.0 c.args.self.some_seats c.remove-first.ensures.value c.remove-first.ensures.items in
    let idle = front cell _ _ _ seats.1 whole in
    (i.same.0 ∙ ap (λ v. v.name) idle.0.0, ap (λ v. v.name) (next_idle cell _ _ _ _ c.in-Some.seat idle.2 i.whole c.in-Some.ensures.items).0)

pub take_in-requires-clause-idle : goal.take_in-requires-clause-idle
take_in-requires-clause-idle g c =
    let cell = cell_view c.args.self in
    let seats = c.requires.seats in
    let i = c.loop-seat.invariant in
    let first = c.remove-first.result in
    let whole = whole_of cell.seats _ _ first seats.0 c.args.self.some_seats c.remove-first.ensures.value c.remove-first.ensures.items in
    let idle = front cell _ _ _ seats.1 whole in
    let free = is_idle cell first idle.0 in (
      (ap (λ v. v.hold) (me_known _ c.loop-seat.first.active _ _ i.me) ∙ free.0, ap (λ m. m.1) i.me),
      is_idle cell c.in-Some.seat (next_idle cell _ _ _ _ c.in-Some.seat idle.2 i.whole c.in-Some.ensures.items),
    )

pub unwrap-requires : goal.unwrap-requires
unwrap-requires g c =
    let S = g.S.Chronicle in
    let cell = cell_view c.args.self in
    let seats = c.requires.seats in
    let i = c.loop-seat.invariant in
    let first = c.remove-first.result in
    let whole = whole_of cell.seats _ _ first seats.0 c.args.self.some_seats c.remove-first.ensures.value c.remove-first.ensures.items in
    there_is S.turns_of S.notes_of S.tally_of S.fixed_of cell _ _ c.args.seats.items _ c.loop-seat.seats.items i.gone first _ _ _ _ record {
      seats = seats;
      whole = whole;
      parts = i.whole;
      none = omega (arith, c.loop-seat.seats.ok.0, c.in_default.ensures.cases.0);
      knows = ap (λ p. p.me.0) c.into_token.ensures ∙ ap (λ m. m.0) i.me;
      final = c.close_with-closed.ensures.values.2;
    } c.take-slot.ensures.value

pub returns : goal.returns
returns g c =
    let S = g.S.Chronicle in
    let cell = cell_view c.args.self in
    let seats = c.requires.seats in
    let i = c.loop-seat.invariant in
    let first = c.remove-first.result in
    let whole = whole_of cell.seats _ _ first seats.0 c.args.self.some_seats c.remove-first.ensures.value c.remove-first.ensures.items in
    closed_with S.turns_of S.notes_of S.tally_of S.fixed_of cell _ _ c.args.seats.items _ c.loop-seat.seats.items i.gone first _ _ _ _ _ record {
      seats = seats;
      whole = whole;
      parts = i.whole;
      none = omega (arith, c.loop-seat.seats.ok.0, c.in_default.ensures.cases.0);
      knows = ap (λ p. p.me.0) c.into_token.ensures ∙ ap (λ m. m.0) i.me;
      final = c.close_with-closed.ensures.values.2;
    } c.take-slot.ensures.value c.unwrap.ensures
